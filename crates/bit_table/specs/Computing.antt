-- What an operator's edges stand for: an own choice of this project.
use Rattle.std.specs.Prelude.{◌≡◌, ℕ, Bool, true, false, List, Option, None, Some, Result, Ok, Err}
use Rattle.std.specs.List.{list_all}
use Rattle.smv_value.specs.declared.operator.Operator.{Operator}
use Rattle.smv_value.specs.declared.value.Value.{Value}
use Rattle.smv_value.specs.declared.value.FaultRule.{FaultRule}
use Rattle.smv_value.specs.Results.{fault_of, is_value, result_of, value_of}
use Rattle.bit_graph.specs.declared.edge.Edge.{Edge}
use Rattle.bit_graph.specs.Meaning.{edge_value}
use Rattle.bit_operators.specs.declared.symbolic.Symbolic.{Symbolic}
use Rattle.bit_operators.specs.Denoting.{denoted}
use Rattle.bit_numbers.specs.Counts.{AreDenoted}

-- where three operands stand for values of which f gives one, the result stands for what f gives
pub record ComputesThree (v : ℕ → Bool) (f : Value → Value → Value → Option Value) (a b c r : Symbolic) : Type 0 where
  pub gives : (x y w z : Value) → denoted v a ≡ Some x → denoted v b ≡ Some y → denoted v c ≡ Some w → is_value x ≡ true → is_value y ≡ true → is_value w ≡ true → f x y w ≡ Some z → denoted v r ≡ Some z

abbrev pub is_fault : Result (Option Value) FaultRule → Bool
is_fault (Ok o) = false
is_fault (Err f) = true

-- Where the operands stand for values, the edge tells whether the operator faults on them. The result stands for the
-- value that it gives of them.
pub record Computes (v : ℕ → Bool) (o : Operator) (operands : List Symbolic) (r : Symbolic) (fault : Edge) : Type 0 where
  pub faults : (xs : List Value) → AreDenoted v operands xs → list_all is_value xs ≡ true → edge_value v fault ≡ is_fault (result_of o xs)
  pub gives : (xs : List Value) (z : Value) → AreDenoted v operands xs → result_of o xs ≡ Ok (Some z) → denoted v r ≡ Some z

-- the same of an operator that never faults
pub record ComputesAlways (v : ℕ → Bool) (o : Operator) (operands : List Symbolic) (r : Symbolic) : Type 0 where
  pub never : (xs : List Value) → fault_of o xs ≡ None
  pub gives : (xs : List Value) (z : Value) → AreDenoted v operands xs → list_all is_value xs ≡ true → value_of o xs ≡ Some z → denoted v r ≡ Some z
