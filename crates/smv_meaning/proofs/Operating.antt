-- The values of operands, from a place of their list on.
use Rattle.std.proofs.Common.{◌≡◌, ◌∙◌, ℕ, ◌+◌, ◌<◌, ◌≤◌, List, [], ◌∷◌, ◌++◌, length, get_or, drop, ap, sym, refl, Option, None, Some, Result, Ok, Err, IfOk}
use Rattle.std.proofs.lemmas.List.{drop_all, drop_more}
use Rattle.smv_value.specs.declared.operator.Operator.{Operator}
use Rattle.smv_value.specs.declared.operator.Operator.TheVariants as operator
use Rattle.smv_value.specs.Results.{result_of}
use Rattle.smv_tree.specs.declared.place.Place.{Place}
use Rattle.smv_value.specs.declared.value.FaultRule.{FaultRule}
use Rattle.smv_value.specs.declared.value.Value.{Value}
use Rattle.smv_meaning.specs.declared.outcome.Evaluation.{Evaluation}
use Rattle.smv_meaning.specs.declared.outcome.Evaluation.TheVariants.{Fault, Nothing, Values}
use Rattle.smv_meaning.specs.Outcomes.{applied, failed, given, operated, over, united, value_in}

module _ (vs : List Value) (xs : List Evaluation) (i : ℕ) (o : Evaluation) (within : i < length xs) (is : o ≡ get_or xs i o) where
  from_here : drop i xs ≡ o ∷ drop (i + 1) xs
  from_here = drop_more xs i o within ∙ ap (λ (x : Evaluation). x ∷ drop (i + 1) xs) (sym is)

  module _ (f : List Value → Evaluation) where
    by_value : (m : Option Value) → value_in o ≡ m → operated f vs (drop i xs) ≡ over o m (λ v. operated f (vs ++ v ∷ []) (drop (i + 1) xs))
    by_value m h = ap (operated f vs) from_here ∙ ap (λ (m : Option Value). over o m (λ v. operated f (vs ++ v ∷ []) (drop (i + 1) xs))) h

    -- one value more
    pub operated_more : (v : Value) → value_in o ≡ Some v → operated f vs (drop i xs) ≡ operated f (vs ++ v ∷ []) (drop (i + 1) xs)
    operated_more v h = by_value (Some v) h

    -- an operand without one value
    pub operated_failed : value_in o ≡ None → operated f vs (drop i xs) ≡ failed o
    operated_failed h = by_value None h

  united_by : (x : Evaluation) → o ≡ x → united vs (drop i xs) ≡ united vs (x ∷ drop (i + 1) xs)
  united_by x h = ap (united vs) (from_here ∙ ap (λ (x : Evaluation). x ∷ drop (i + 1) xs) h)

  -- the values of one operand more, and operands without values
  pub united_more : (ws : List Value) → o ≡ Values ws → united vs (drop i xs) ≡ united (vs ++ ws) (drop (i + 1) xs)
  united_more ws h = united_by (Values ws) h

  pub united_nothing : o ≡ Nothing → united vs (drop i xs) ≡ Nothing
  united_nothing h = united_by Nothing h

  pub united_fault : (rule : FaultRule) (place : Place) → o ≡ Fault rule place → united vs (drop i xs) ≡ Fault rule place
  united_fault rule place h = united_by (Fault rule place) h

-- all operands
pub operated_all : (f : List Value → Evaluation) (vs : List Value) (xs : List Evaluation) (i : ℕ) → length xs ≤ i → operated f vs (drop i xs) ≡ f vs
operated_all f vs xs i l = ap (operated f vs) (drop_all i xs l)

pub united_all : (vs : List Value) (xs : List Evaluation) (i : ℕ) → length xs ≤ i → united vs (drop i xs) ≡ Values vs
united_all vs xs i l = ap (united vs) (drop_all i xs l)

-- an operator that takes one value of each operand
applied_other : (o : Operator) (p : Place) (os : List Evaluation) → ((rule : FaultRule) → o ≡ operator.Choice rule → ⊥) → (o ≡ operator.Members → ⊥) → (o ≡ operator.Union → ⊥) →
    (o ≡ operator.Range → ⊥) → (o ≡ operator.In → ⊥) → applied o p os ≡ operated (λ vs. given p (result_of o vs)) [] os
applied_other (operator.Choice rule) p os a b c d e = absurd (a rule refl)
applied_other operator.Members p os a b c d e = absurd (b refl)
applied_other operator.Union p os a b c d e = absurd (c refl)
applied_other operator.Range p os a b c d e = absurd (d refl)
applied_other operator.In p os a b c d e = absurd (e refl)
applied_other o p os a b c d e = refl

pub applied_by : {E : Type 0} (r : Result Evaluation E) (o : Operator) (p : Place) (os : List Evaluation) → ((rule : FaultRule) → o ≡ operator.Choice rule → ⊥) → (o ≡ operator.Members → ⊥) →
    (o ≡ operator.Union → ⊥) → (o ≡ operator.Range → ⊥) → (o ≡ operator.In → ⊥) →
    IfOk r (λ x. x ≡ operated (λ vs. given p (result_of o vs)) [] os) → IfOk r (λ x. x ≡ applied o p os)
applied_by (Ok x) o p os a b c d e h = h ∙ sym (applied_other o p os a b c d e)
applied_by (Err err) o p os a b c d e h = h
