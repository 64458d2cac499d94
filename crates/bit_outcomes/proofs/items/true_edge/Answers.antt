-- The value's edge.
use Rattle.std.proofs.Common.{ap, subst, sym, ◌∙◌}
use Rattle.std.specs.Prelude.{Bool, Option, false, unwrap_or}
use Rattle.bit_outcomes.specs.declared.told.Told.{Told}
use Rattle.bit_outcomes.specs.declared.told.Told.TheVariants as told
use Rattle.bit_outcomes.specs.Telling.{Tells}
use Rattle.bit_outcomes.proofs.OfAsked.{true_told, plain_told, word_plain, discrete_plain}
use Rattle.bit_outcomes.proofs.items.true_edge.Goals as goal

pub returns-in_ok-edge-in-Boolean-clause-value : goal.returns-in_ok-edge-in-Boolean-clause-value
returns-in_ok-edge-in-Boolean-clause-value c = λ v o h a i.
    true_told v c.in-One.f c.negation.result c.in-Boolean.b c.in_ok-edge-in-Boolean.edge o c.negation.ensures (c.in_ok-edge-in-Boolean.ensures.value v h)
    (subst (λ (t : Told). Tells v t o) (c.in-One.is ∙ ap (told.One c.in-One.f) c.in-Boolean.is) a) i

pub returns-in-Word-clause-value : goal.returns-in-Word-clause-value
returns-in-Word-clause-value c = λ v o h a i.
    c.constant.ensures.value v h
    ∙ sym (ap (λ (t : Option Bool). unwrap_or t false) (plain_told v c.in-One.f c.in-One.value o (word_plain v _ _ c.in-One.value c.in-Word.is) (subst (λ (t : Told). Tells v t o) c.in-One.is a)))

pub returns-in-Discrete-clause-value : goal.returns-in-Discrete-clause-value
returns-in-Discrete-clause-value c = λ v o h a i.
    c.constant-in-Discrete.ensures.value v h
    ∙ sym (ap (λ (t : Option Bool). unwrap_or t false) (plain_told v c.in-One.f c.in-One.value o (discrete_plain v _ c.in-One.value c.in-Discrete.is) (subst (λ (t : Told). Tells v t o) c.in-One.is a)))
