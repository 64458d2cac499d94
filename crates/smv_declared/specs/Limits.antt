-- What the limits of a declared type give, where they keep the rules.
use Rattle.std.specs.Prelude.{ℕ, List, ℤ, pos}
use Rattle.smv_value.specs.Results.{natural}
use Rattle.smv_tree.specs.declared.tree.TypeExpr.{TypeExpr}
use Rattle.smv_tree.specs.declared.tree.TypeExpr.TheVariants as written
use Rattle.value_types.specs.declared.value_type.Element.{Element}
use Rattle.value_types.specs.declared.value_type.ValueType.{ValueType}
use Rattle.value_types.specs.declared.value_type.ValueType.TheVariants as type
use Rattle.smv_declared.specs.declared.variable_type.Bounds.{Bounds}
use Rattle.smv_declared.specs.declared.limits.Limits.{Limits}
use Rattle.smv_declared.specs.declared.limits.ElementLimits.{ElementLimits}
use Rattle.smv_declared.specs.declared.limits.ElementLimits.TheVariants as limit
use Rattle.smv_declared.specs.Types.{bounds_between, number_of}

abbrev pub bounds_in : Limits → Bounds
bounds_in x = bounds_between (number_of x.low) (number_of x.high)

-- the width of a word; 0 of what is none
abbrev pub width_in : ElementLimits → ℕ
width_in (limit.Width place width) = natural (number_of width)
width_in other = 0

-- the first and the last integer of a range; 0 of what is none

abbrev pub low_in : ElementLimits → ℤ
low_in (limit.Range x) = number_of x.low
low_in other = pos 0

abbrev pub high_in : ElementLimits → ℤ
high_in (limit.Range x) = number_of x.high
high_in other = pos 0

-- the type that is declared so, with these limits and elements
abbrev pub type_from : TypeExpr → ElementLimits → List Element → ValueType
type_from (written.Boolean place) limits elements = type.Boolean
type_from (written.Word place signed width) limits elements = type.Word signed (width_in limits)
type_from (written.Range place low high) limits elements = type.Range (low_in limits) (high_in limits)
type_from (written.Enumeration place written) limits elements = type.Enumeration elements
type_from (written.Instance place name given) limits elements = type.Boolean
