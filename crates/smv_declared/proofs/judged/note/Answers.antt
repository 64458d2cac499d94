-- One module more.
use Rattle.std.proofs.Common.{subst}
use Rattle.std.specs.Prelude.{nat_eq, Option, Some, ℕ, List}
use Rattle.std.specs.HashMap.{get}
use Rattle.smv_tree.specs.declared.tree.Section.{Section}
use Rattle.smv_declared.specs.Closed.{SayInSections, read}
use Rattle.smv_declared.proofs.Instances.{judged_more}
use Rattle.smv_declared.proofs.judged.note.Goals as goal

pub returns : goal.returns
returns c =
    let p = c.args.scope.now.program in
    let again = c.in_ok-again.again in
    let P : Option ℕ → Type 0 = λ m. SayInSections p m c.args.sections.now (read again.items) in
    let Q : List Section → Type 0 = λ ss. SayInSections p (Some c.args.m) ss (read again.items) in
    judged_more p (get nat_eq c.args.judged.now) (get nat_eq c.insert.new.self) c.args.m again c.in_ok-insert.ensures.updates.0
    (subst Q c.requires.sections (subst P c.requires.is c.in_ok-again.ensures)) c.requires.judged
