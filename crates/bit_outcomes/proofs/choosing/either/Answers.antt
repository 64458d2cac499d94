-- A condition with an edge.
use Rattle.std.proofs.Common.{subst, ap, ◌∙◌}
use Rattle.bit_outcomes.specs.declared.told.Told.{Told}
use Rattle.bit_outcomes.specs.declared.told.Told.TheVariants as told
use Rattle.bit_outcomes.specs.Telling.{Tells}
use Rattle.bit_outcomes.proofs.choosing.either.Goals as goal

pub returns-in_ok-told-in-Boolean-clause-told : goal.returns-in_ok-told-in-Boolean-clause-told
returns-in_ok-told-in-Boolean-clause-told c = λ v o a r h s p q.
    c.in_ok-told-in-Boolean.ensures.told v o a r h (subst (λ (t : Told). Tells v t o) (c.in-One.is ∙ ap (told.One c.in-One.fault) c.in-Boolean.is) s) p q
