-- What operators make of what holds at the same times.
use Rattle.std.proofs.Common.{◌≡◌, ℕ, Bool, true, false}
use Rattle.std.specs.Prelude.{◌↔◌}
use Rattle.smv_value.specs.declared.operator.Operator.{Operator}
use Rattle.smv_value.specs.declared.operator.Operator.TheVariants as operator
use Rattle.smv_value.specs.declared.operator.Logic.{Logic}
use Rattle.smv_value.specs.declared.operator.Logic.TheVariants as logic
use Rattle.smv_value.specs.declared.operator.Temporal.{Temporal}
use Rattle.smv_value.specs.declared.operator.Temporal.TheVariants as tense
use Rattle.smv_value.specs.declared.operator.Bounded.{Bounded}
use Rattle.smv_value.specs.declared.operator.Bounded.TheVariants as bounded
use Rattle.smv_meaning.specs.Lassos.{bounded_holds, either, logic_holds, operator_holds, temporal_holds}
use Rattle.ltl_meaning.specs.declared.node.BoundedOperator.{BoundedOperator}
use Rattle.ltl_meaning.specs.Truth.{Moment, binary_truth}
use Rattle.ltl_meaning.proofs.Alike.{AreAlike, unary_alike, binary_alike}
use Rattle.smv_formulas.specs.declared.forms.Form.{Form}
use Rattle.smv_formulas.specs.declared.forms.Form.TheVariants as form
use Rattle.smv_formulas.specs.Forms.{connective, form_holds, form_of, tense_form, within, within_holds}

pub both : (P : Type 0) → P ↔ P
both P = (λ x. x, λ x. x)

pub chained : (P Q R : Moment) → AreAlike P Q → AreAlike Q R → AreAlike P R
chained P Q R e f t = (λ x. (f t).0 ((e t).0 x), λ x. (e t).1 ((f t).1 x))

-- an operator by its form

logic_is : (o : Logic) (P Q : Moment) → AreAlike (logic_holds o P Q) (binary_truth (connective o) P Q)
logic_is logic.And P Q t = both _
logic_is logic.Or P Q t = both _
logic_is logic.Xor P Q t = both _
logic_is logic.Xnor P Q t = both _
logic_is logic.Implies P Q t = both _
logic_is logic.Iff P Q t = both _

tense_is : (o : Temporal) (P Q : Moment) → AreAlike (temporal_holds o P Q) (form_holds (tense_form o) P Q)
tense_is tense.Next P Q t = both _
tense_is tense.Finally P Q t = both _
tense_is tense.Globally P Q t = both _
tense_is tense.Previously P Q t = both _
tense_is tense.WeaklyPreviously P Q t = both _
tense_is tense.Once P Q t = both _
tense_is tense.Historically P Q t = both _
tense_is tense.Until P Q t = both _
tense_is tense.Releases P Q t = both _
tense_is tense.Since P Q t = both _
tense_is tense.Triggered P Q t = both _

bounded_is : (o : Bounded) (low high : ℕ) (P : Moment) → AreAlike (bounded_holds o low high P) (within_holds (within o) low high P)
bounded_is bounded.Finally low high P t = both _
bounded_is bounded.Globally low high P t = both _
bounded_is bounded.Once low high P t = both _
bounded_is bounded.Historically low high P t = both _

pub operator_is : (o : Operator) (P Q : Moment) → AreAlike (operator_holds o P Q) (form_holds (form_of o) P Q)
operator_is operator.Not P Q t = both _
operator_is (operator.Logic o) P Q t = logic_is o P Q t
operator_is (operator.Temporal o) P Q t = tense_is o P Q t
operator_is (operator.Bounded o low high) P Q t = bounded_is o low high P t
operator_is other P Q t = both _

-- operands that hold at the same times

module _ (P Q : Moment) (e : AreAlike P Q) where
  pub within_alike : (o : BoundedOperator) (low high : ℕ) → AreAlike (within_holds o low high P) (within_holds o low high Q)
  within_alike BoundedOperator.Finally low high t = (λ x. (x.0, x.1, x.2, (e x.0).0 x.3), λ x. (x.0, x.1, x.2, (e x.0).1 x.3))
  within_alike BoundedOperator.Globally low high t = (λ x u h k. (e u).0 (x u h k), λ x u h k. (e u).1 (x u h k))
  within_alike BoundedOperator.Once low high t = (λ x. (x.0, x.1, x.2, (e x.0).0 x.3), λ x. (x.0, x.1, x.2, (e x.0).1 x.3))
  within_alike BoundedOperator.Historically low high t = (λ x u h k. (e u).0 (x u h k), λ x u h k. (e u).1 (x u h k))

  pub form_alike : (R S : Moment) → AreAlike R S → (o : Form) → AreAlike (form_holds o P R) (form_holds o Q S)
  form_alike R S f (form.One o) = unary_alike P Q e o
  form_alike R S f (form.Within o low high) = within_alike o low high
  form_alike R S f (form.Two o) = binary_alike P Q e R S f o
  form_alike R S f form.Neither = λ t. both _

-- the choice between two

pub either_first : (b : Bool) (P Q : Moment) → b ≡ true → AreAlike (either b P Q) P
either_first true P Q h t = both _
either_first false P Q h t = absurd (cc)

pub either_second : (b : Bool) (P Q : Moment) → b ≡ false → AreAlike (either b P Q) Q
either_second true P Q h t = absurd (cc)
either_second false P Q h t = both _
