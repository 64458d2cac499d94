-- What gates tell of operands that have one value each.
use Rattle.std.specs.Prelude.{◌≡◌, ℕ, Bool, true, false, List, [], ◌∷◌, ◌++◌}
use Rattle.bit_graph.specs.declared.edge.Edge.{Edge}
use Rattle.bit_graph.specs.Meaning.{edge_value}
use Rattle.smv_value.specs.declared.value.Value.{Value}
use Rattle.smv_meaning.specs.declared.outcome.Evaluation.{Evaluation}
use Rattle.smv_meaning.specs.declared.outcome.Evaluation.TheVariants.{Fault, Nothing, Values}
use Rattle.smv_meaning.specs.Outcomes.{over, value_in}
use Rattle.bit_operators.specs.declared.symbolic.Symbolic.{Symbolic}
use Rattle.bit_numbers.specs.Counts.{AreDenoted}

-- a fault where the edge is true, and else these values one after another
abbrev pub TellsEach : (ℕ → Bool) → Edge → List Symbolic → Evaluation → Type 0
TellsEach v fault ss Nothing = Unit {0}
TellsEach v fault ss (Fault rule place) = edge_value v fault ≡ true
TellsEach v fault ss (Values xs) = (edge_value v fault ≡ false) × AreDenoted v ss xs

-- the values of operands, and the one value of one operand more, or the first that has none
abbrev pub beside : Evaluation → Evaluation → Evaluation
beside (Values xs) o = over o (value_in o) (λ v. Values (xs ++ v ∷ []))
beside x o = x

-- what f gives of the values
abbrev pub bound : (List Value → Evaluation) → Evaluation → Evaluation
bound f (Values xs) = f xs
bound f o = o
