-- What is printed is read back, and what is read is what is printed.
use Rattle.std.proofs.Common.{ap, ◌∙◌}
use Rattle.trace_lines.specs.Lines.{entry_read}
use Rattle.trace_lines.proofs.OfPrinted.{read_back}
use Rattle.trace_lines.proofs.OfRead.{printed}
use Rattle.trace_lines.proofs.exact_lines.is_said_exactly.Goals as goal

pub returns : goal.returns
returns c = λ line e. record { read = λ formed same. ap entry_read same ∙ read_back e formed; printed = printed line e }
