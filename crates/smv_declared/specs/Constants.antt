-- Constants of types: integers that literals give by `-`, `+`, `*`, `/` and `mod`, through names (NuSMV 2.6 User Manual, 2.1). They
-- are whole numbers of any size.
use Rattle.std.specs.Prelude.{if◌then◌else◌, List, [], ◌∷◌, Option, None, Some, ℤ, neg_ℤ}
use Rattle.smv_value.specs.declared.operator.Arithmetic.{Arithmetic}
use Rattle.smv_value.specs.declared.operator.Division.{Division}
use Rattle.smv_value.specs.declared.operator.Operator.{Operator}
use Rattle.smv_value.specs.declared.operator.Operator.TheVariants as operator
use Rattle.smv_value.specs.declared.value.Value.{Value}
use Rattle.smv_value.specs.declared.value.Value.TheVariants as value
use Rattle.smv_value.specs.Results.{divided, sum_of}
use Rattle.smv_resolve.specs.Resolved.{Operands, Resolved}
use Rattle.whole_numbers.specs.Limbs.{is_zero}
use Rattle.smv_declared.specs.declared.constant.Constant.{Constant}
use Rattle.smv_declared.specs.declared.constant.Constant.TheVariants.{NotConstant, Integer}

-- the integer, if it is one
abbrev pub integer_of : Constant → Option ℤ
integer_of NotConstant = None
integer_of (Integer z) = Some z

abbrev pub constant_of_value : Value → Constant
constant_of_value (value.Int z) = Integer z
constant_of_value other = NotConstant

abbrev pub negated : Constant → Constant
negated (Integer a) = Integer (neg_ℤ a)
negated NotConstant = NotConstant

abbrev pub summed : Arithmetic → Constant → Constant → Constant
summed o (Integer a) (Integer b) = Integer (sum_of o a b)
summed o a b = NotConstant

-- nothing is divided by 0
abbrev pub quotient : Division → Constant → Constant → Constant
quotient o (Integer a) (Integer b) = if is_zero b then NotConstant else Integer (divided o a b)
quotient o a b = NotConstant

-- what an operator gives of one constant, and of two

abbrev pub operated_by_one : Operator → Constant → Constant
operated_by_one operator.Negate a = negated a
operated_by_one other a = NotConstant

abbrev pub operated_by_two : Operator → Constant → Constant → Constant
operated_by_two (operator.Arithmetic o) a b = summed o a b
operated_by_two (operator.Division o) a b = quotient o a b
operated_by_two other a b = NotConstant

-- what it gives of constants
abbrev pub operated : Operator → List Constant → Constant
operated o (a ∷ []) = operated_by_one o a
operated o (a ∷ b ∷ []) = operated_by_two o a b
operated o other = NotConstant

-- the constant that an expression is, if it is one
abbrev mutual
  pub constant_of : Resolved → Constant
  constant_of (Resolved.Constant place v) = constant_of_value v
  constant_of (Resolved.Named place naming r) = constant_of r
  constant_of (Resolved.Apply place o rs) = operated o (constants_of rs)
  constant_of other = NotConstant

  pub constants_of : Operands → List Constant
  constants_of Operands.End = []
  constants_of (Operands.With r rs) = constant_of r ∷ constants_of rs
