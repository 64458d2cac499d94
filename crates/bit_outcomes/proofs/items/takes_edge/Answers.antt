-- One value.
use Rattle.std.proofs.Common.{subst}
use Rattle.bit_outcomes.specs.declared.told.Told.{Told}
use Rattle.bit_outcomes.specs.Telling.{Tells}
use Rattle.bit_outcomes.proofs.items.takes_edge.Goals as goal

pub returns-in_ok-edge-in-One-clause-value : goal.returns-in_ok-edge-in-One-clause-value
returns-in_ok-edge-in-One-clause-value c = λ v p q h a b i j. c.in_ok-edge-in-One.ensures.value v p q h (subst (λ (t : Told). Tells v t p) c.in-One.is a) b i j
