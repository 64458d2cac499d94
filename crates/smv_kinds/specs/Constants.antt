-- Constants: integers of literals by `-`, `+`, `*`, `/` and `mod`, without a fault, also as an index. An own choice of
-- this project.
use Rattle.std.specs.Prelude.{Bool, true, false, ◌&&◌, if◌then◌else◌, List, [], ◌∷◌, Option, None, Some, Result, Ok, Err, ℤ}
use Rattle.smv_value.specs.declared.operator.Operator.{Operator}
use Rattle.smv_value.specs.declared.operator.Operator.TheVariants as operator
use Rattle.smv_value.specs.declared.value.Value.{Value}
use Rattle.smv_value.specs.declared.value.Value.TheVariants as value
use Rattle.smv_value.specs.declared.value.FaultRule.{FaultRule}
use Rattle.smv_value.specs.Results.{result_of}
use Rattle.smv_kinds.specs.declared.kind.Operand.{Operand}

-- the operators of constants
abbrev pub is_constant : Operator → Bool
is_constant operator.Negate = true
is_constant (operator.Arithmetic o) = true
is_constant (operator.Division o) = true
is_constant operator.Subscript = true
is_constant other = false

-- one integer, or two
abbrev pub are_integers : List Value → Bool
are_integers (value.Int a ∷ []) = true
are_integers (value.Int a ∷ value.Int b ∷ []) = true
are_integers other = false

abbrev pub value_in : Result (Option Value) FaultRule → Option Value
value_in (Ok v) = v
value_in (Err f) = None

-- the constant that an operator gives of constants, if it gives one
abbrev pub constant_of : Operator → List Value → Option Value
constant_of o vs = if is_constant o && are_integers vs then value_in (result_of o vs) else None

abbrev pub integer_in : Option Value → Option ℤ
integer_in (Some (value.Int z)) = Some z
integer_in other = None

abbrev pub constant_of_one : Operator → Option ℤ → Option ℤ
constant_of_one o None = None
constant_of_one o (Some a) = integer_in (constant_of o (value.Int a ∷ []))

abbrev pub constant_of_two : Operator → Option ℤ → Option ℤ → Option ℤ
constant_of_two o (Some a) (Some b) = integer_in (constant_of o (value.Int a ∷ value.Int b ∷ []))
constant_of_two o a b = None

-- the same of what operands are told as
abbrev pub constant_given : Operator → List Operand → Option ℤ
constant_given o (x ∷ []) = constant_of_one o x.constant
constant_given o (x ∷ y ∷ []) = constant_of_two o x.constant y.constant
constant_given o other = None
