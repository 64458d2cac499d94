-- Indices that are constants: integers of 32 bits, as each part of them is.
use Rattle.std.specs.Prelude.{if◌then◌else◌, List, [], ◌∷◌, Option, None, Some, ℤ}
use Rattle.smv_value.specs.declared.operator.Operator.{Operator}
use Rattle.smv_value.specs.declared.value.Value.{Value}
use Rattle.smv_value.specs.declared.value.Value.TheVariants as value
use Rattle.smv_value.specs.Results.{is_int}
use Rattle.smv_kinds.specs.Constants.{constant_of_one, constant_of_two}
use Rattle.smv_resolve.specs.Resolved.{Operands, Resolved}

abbrev pub index_by : Operator → List (Option ℤ) → Option ℤ
index_by o (a ∷ []) = constant_of_one o a
index_by o (a ∷ b ∷ []) = constant_of_two o a b
index_by o other = None

abbrev pub index_of_value : Value → Option ℤ
index_of_value (value.Int z) = if is_int z then Some z else None
index_of_value other = None

abbrev mutual
  pub index_of : Resolved → Option ℤ
  index_of (Resolved.Constant place v) = index_of_value v
  index_of (Resolved.Named place naming r) = index_of r
  index_of (Resolved.Apply place o rs) = index_by o (indices_of rs)
  index_of other = None

  pub indices_of : Operands → List (Option ℤ)
  indices_of Operands.End = []
  indices_of (Operands.With r rs) = index_of r ∷ indices_of rs
