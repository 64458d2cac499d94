-- One value more.
use Rattle.bit_operators.specs.declared.symbolic.Symbolic.{Symbolic}
use Rattle.std.proofs.Common.{List, subst, sym}
use Rattle.bit_outcomes.specs.declared.told.Told.{Told}
use Rattle.bit_outcomes.specs.Gathering.{TellsEach, beside}
use Rattle.bit_outcomes.specs.Telling.{Tells}
use Rattle.bit_outcomes.proofs.OfOperands.{each_together}
use Rattle.bit_outcomes.proofs.operators.with_value.Goals as goal

pub returns-in_ok-each-in-One-clause-told : goal.returns-in_ok-each-in-One-clause-told
returns-in_ok-each-in-One-clause-told c = λ v x o h a b.
    let each = c.in_ok-each-in-One.each in
    subst (λ (ss : List Symbolic). TellsEach v each.fault ss (beside x o)) (sym c.in_ok-each-in-One.ensures.values)
    (each_together v c.args.made.fault c.in-One.f each.fault c.args.made.values c.in-One.x x o (c.in_ok-each-in-One.ensures.fault v h) a (subst (λ (t : Told). Tells v t o) c.in-One.is b))
