-- Two values, or two sets.
use Rattle.std.proofs.Common.{subst}
use Rattle.bit_outcomes.specs.declared.told.Told.{Told}
use Rattle.bit_outcomes.specs.Telling.{Tells}
use Rattle.bit_outcomes.proofs.choosing.decided.Goals as goal

pub returns-in_ok-told-in-One-One-clause-told : goal.returns-in_ok-told-in-One-One-clause-told
returns-in_ok-told-in-One-One-clause-told c = λ v o a r h s p q.
    c.in_ok-told-in-One-One.ensures.told v o a r h s (subst (λ (t : Told). Tells v t a) c.in-One-One.is-0 p) (subst (λ (t : Told). Tells v t r) c.in-One-One.is-1 q)
