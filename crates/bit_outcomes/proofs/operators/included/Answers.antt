-- One value.
use Rattle.std.proofs.Common.{subst}
use Rattle.bit_outcomes.specs.declared.told.Told.{Told}
use Rattle.bit_outcomes.specs.Telling.{Tells}
use Rattle.bit_outcomes.proofs.operators.included.Goals as goal

pub returns-in_ok-told-in-One-clause-told : goal.returns-in_ok-told-in-One-clause-told
returns-in_ok-told-in-One-clause-told c = λ v p q h a b. c.in_ok-told-in-One.ensures.told v p q h (subst (λ (t : Told). Tells v t p) c.in-One.is a) b
