-- What is told of an operator by its name.
use Rattle.std.proofs.Common.{◌≡◌, ℕ, Bool, List, [], Result, Ok, Err, IfOk, refl, sym, subst}
use Rattle.bit_graph.specs.declared.edge.GraphNode.{GraphNode}
use Rattle.bit_graph.specs.Meaning.{Consistent}
use Rattle.smv_tree.specs.declared.place.Place.{Place}
use Rattle.smv_value.specs.declared.operator.Operator.{Operator}
use Rattle.smv_value.specs.declared.operator.Operator.TheVariants as operator
use Rattle.smv_value.specs.declared.value.FaultRule.{FaultRule}
use Rattle.smv_value.specs.Results.{result_of}
use Rattle.smv_meaning.specs.declared.outcome.Evaluation.{Evaluation}
use Rattle.smv_meaning.specs.Outcomes.{applied, choice, given, operated}
use Rattle.smv_meaning.proofs.Operating.{applied_by}
use Rattle.bit_outcomes.specs.declared.told.Told.{Told}
use Rattle.bit_outcomes.specs.Telling.{Tells, TellsAll}

module _ {E : Type 0} (r : Result Told E) (g : List GraphNode) (ts : List Told) where
  abbrev Says : (Place → List Evaluation → Evaluation) → Type 0
  Says f = IfOk r (λ t. (place : Place) (v : ℕ → Bool) (os : List Evaluation) → Consistent v g → TellsAll v ts os → Tells v t (f place os))

-- the same wherever it stands
pub anywhere : {E : Type 0} (r : Result Told E) (g : List GraphNode) (ts : List Told) (f : List Evaluation → Evaluation) →
    IfOk r (λ t. (v : ℕ → Bool) (os : List Evaluation) → Consistent v g → TellsAll v ts os → Tells v t (f os)) → Says r g ts (λ place os. f os)
anywhere (Ok t) g ts f h = λ place v os c all. h v os c all
anywhere (Err e) g ts f h = h

-- a choice that faults by this rule
pub by_rule : {E : Type 0} (r : Result Told E) (g : List GraphNode) (ts : List Told) (rule : FaultRule) →
    IfOk r (λ t. (rule : FaultRule) (place : Place) (v : ℕ → Bool) (os : List Evaluation) → Consistent v g → TellsAll v ts os → Tells v t (choice rule place os)) →
    Says r g ts (applied (operator.Choice rule))
by_rule (Ok t) g ts rule h = λ place v os c all. h rule place v os c all
by_rule (Err e) g ts rule h = h

-- by another name of the operator
pub told_of : {E : Type 0} (r : Result Told E) (g : List GraphNode) (ts : List Told) (o q : Operator) → o ≡ q → Says r g ts (applied q) → Says r g ts (applied o)
told_of r g ts o q is h = subst (λ (p : Operator). Says r g ts (applied p)) (sym is) h

along : {E : Type 0} (r : Result Told E) (g : List GraphNode) (ts : List Told) (f e : Place → List Evaluation → Evaluation) → ((place : Place) (os : List Evaluation) → f place os ≡ e place os) →
    Says r g ts f → Says r g ts e
along (Ok t) g ts f e same h = λ place v os c all. subst (λ (o : Evaluation). Tells v t o) (same place os) (h place v os c all)
along (Err x) g ts f e same h = h

abbrev by_values : Operator → Place → List Evaluation → Evaluation
by_values o place os = operated (λ vs. given place (result_of o vs)) [] os

-- one that takes one value of each operand
pub other_told : {E : Type 0} (r : Result Told E) (g : List GraphNode) (ts : List Told) (o : Operator) → ((rule : FaultRule) → o ≡ operator.Choice rule → ⊥) → (o ≡ operator.Members → ⊥) → (o ≡ operator.Union → ⊥) →
    (o ≡ operator.Range → ⊥) → (o ≡ operator.In → ⊥) → Says r g ts (by_values o) → Says r g ts (applied o)
other_told r g ts o a b c d e h =
    along r g ts (by_values o) (applied o) (λ place os. applied_by {E = ℕ} (Ok (by_values o place os)) o place os a b c d e refl) h
