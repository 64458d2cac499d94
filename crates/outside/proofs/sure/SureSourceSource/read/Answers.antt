-- What was left is what the view of the fields tells, and the bytes given are its front.
use Rattle.std.proofs.Common.{sym, ◌∙◌, arith}
use Rattle.std.proofs.lemmas.List.{drop_all}
use Rattle.std.proofs.lemmas.Grind.{common_steps}
use Rattle.outside.proofs.Reading.{read_front}
use Rattle.outside.proofs.sure.SureSourceSource.read.Goals as goal

pub returns-clause-bytes : goal.returns-clause-bytes
returns-clause-bytes c = (
  sym c.self.view_is ∙ grind (arith, common_steps, read_front),
  λ zero room. grind (arith, common_steps, drop_all),
)
