-- Where sets may stand: an own choice of this project.
use Rattle.std.specs.Prelude.{ℕ, ◌==◌, Bool, true, false, not, ◌&&◌, ◌||◌, if◌then◌else◌, List, Err}
use Rattle.smv_value.specs.declared.operator.Operator.{Operator}
use Rattle.smv_value.specs.declared.operator.Operator.TheVariants as operator
use Rattle.smv_kinds.specs.declared.kind.Operand.{Operand}
use Rattle.smv_kinds.specs.declared.kind.KindRule.TheVariants as rule
use Rattle.smv_kinds.specs.Kinds.{Given, kind_given}

-- what makes a set of its operands
abbrev pub makes_set : Operator → Bool
makes_set operator.Members = true
makes_set operator.Union = true
makes_set operator.Range = true
makes_set other = false

-- Whether a set may stand as the operand of this number, where one may around the operator or not: on the right of `in`
-- always.
abbrev pub takes_sets : Operator → ℕ → Bool → Bool
takes_sets operator.In k sets = sets || (k == 1)
takes_sets other k sets = sets

-- the kind where sets may stand, or may not
abbrev pub kind_in_context : Bool → Operator → List Operand → Given
kind_in_context sets o xs = if not sets && makes_set o then Err rule.SetHere else kind_given o xs
