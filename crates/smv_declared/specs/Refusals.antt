-- The rules of declared types: an own choice of this project.
use Rattle.std.specs.Prelude.{ℕ, ◌+◌, if◌then◌else◌, List, [], ◌∷◌, ◌++◌, map, Option, None, Some, ℤ, int_lt}
use Rattle.std.specs.List.{list_any}
use Rattle.smv_value.specs.declared.operator.Operator.{Operator}
use Rattle.smv_value.specs.Results.{is_int, is_width, natural}
use Rattle.smv_tree.specs.declared.place.Place.{Place}
use Rattle.smv_tree.specs.declared.refusal.Refusal.{Refusal}
use Rattle.smv_tree.specs.declared.refusal.Rule.TheVariants as rule
use Rattle.smv_tree.specs.declared.tree.Program.{Program}
use Rattle.smv_tree.specs.declared.tree.Section.{Section}
use Rattle.smv_tree.specs.declared.tree.Dimension.{Dimension}
use Rattle.smv_tree.specs.declared.tree.Expr.{Expr, Expr-F, fold-Expr}
use Rattle.smv_tree.specs.declared.tree.TypeExpr.{TypeExpr}
use Rattle.smv_tree.specs.declared.tree.TypeExpr.TheVariants as written
use Rattle.smv_tree.specs.declared.tree.Variable.{Variable}
use Rattle.smv_tree.specs.declared.tree.VariableKind.{VariableKind}
use Rattle.smv_tree.specs.declared.tree.VariableKind.TheVariants as sort
use Rattle.smv_tree.specs.declared.tree.WrittenElement.{WrittenElement}
use Rattle.value_types.specs.declared.value_type.Element.{Element}
use Rattle.value_types.specs.Types.{element_value, is_element}
use Rattle.smv_scope.specs.declared.instance.Instance.{Instance}
use Rattle.smv_scope.specs.Modules.{sections_of, variables_in}
use Rattle.smv_scope.specs.Instances.{instances_of}
use Rattle.smv_resolve.specs.Resolved.{place_of_start}
use Rattle.whole_numbers.specs.Decimals.{decimal_text}
use Rattle.smv_verdicts.specs.Verdicts.{detailed, first_of, or_else, plain}
use Rattle.smv_declared.specs.declared.constant.Constant.{Constant}
use Rattle.smv_declared.specs.declared.constant.Constant.TheVariants.{NotConstant, Integer}
use Rattle.smv_declared.specs.declared.limits.Limits.{Limits}
use Rattle.smv_declared.specs.declared.limits.ElementLimits.{ElementLimits}
use Rattle.smv_declared.specs.declared.limits.ElementLimits.TheVariants as limit
use Rattle.smv_declared.specs.Types.{bound_of, element_of}

-- that of the last link's operator, where there is a link
abbrev pub last_place : {A : Type 0} → Place → List (Place × Operator × A) → Place
last_place place [] = place
last_place place (link ∷ links) = last_place link.0 links

abbrev pub place_of_node : Expr-F Place → Place
place_of_node (Expr-F.Constant place v) = place
place_of_node (Expr-F.Name name) = place_of_start name.start
place_of_node (Expr-F.Group place e) = e
place_of_node (Expr-F.Next place e) = place
place_of_node (Expr-F.Apply place o beside below) = place
place_of_node (Expr-F.Chain first links) = last_place first links

-- The place of an expression: that of its operator, the last one of a chain, or of its first token. Parentheses have none.
unfoldable pub place_of : Expr → Place
place_of e = fold-Expr Place place_of_node e

-- an instance that `VAR` does not declare, or an array of instances: at the module's name
abbrev pub instance_refusal : VariableKind → List Dimension → TypeExpr → Option Refusal
instance_refusal sort.State [] (written.Instance place name given) = None
instance_refusal kind dimensions (written.Instance place name given) = Some (plain rule.TypeMismatch place)
instance_refusal kind dimensions other = None

abbrev pub no_constant : Place → Constant → Option Refusal
no_constant place NotConstant = Some (plain rule.NotConstant place)
no_constant place other = None

abbrev pub empty_range : Place → Constant → Constant → Option Refusal
empty_range place (Integer low) (Integer high) = if int_lt high low then Some (plain rule.EmptyRange place) else None
empty_range place low high = None

-- a width that no word has
abbrev pub no_width : Place → Constant → Option Refusal
no_width place NotConstant = None
no_width place (Integer z) = if is_width (natural z) then None else Some (detailed rule.WordWidth place (decimal_text z))

-- a bound that has more than 32 bits
abbrev pub too_wide : Place → Constant → Option Refusal
too_wide place NotConstant = None
too_wide place (Integer z) = if is_int z then None else Some (plain rule.IntWidth place)

-- the limits of a range or of a dimension, which are declared so
abbrev pub limits_by : Program → ℕ → Expr → Expr → Limits
limits_by p at low high = record { low_place = place_of low; low = bound_of p at low; high_place = place_of high; high = bound_of p at high }

abbrev pub dimension_limits : Program → ℕ → Dimension → Limits
dimension_limits p at d = limits_by p at d.low d.high

abbrev pub element_limits : Program → ℕ → TypeExpr → ElementLimits
element_limits p at (written.Word place signed width) = limit.Width (place_of width) (bound_of p at width)
element_limits p at (written.Range place low high) = limit.Range (limits_by p at low high)
element_limits p at other = limit.Absent

abbrev pub no_constants : Limits → Option Refusal
no_constants x = or_else (no_constant x.low_place x.low) (no_constant x.high_place x.high)

abbrev pub empty_limits : Limits → Option Refusal
empty_limits x = empty_range x.low_place x.low x.high

abbrev pub wide_limits : Limits → Option Refusal
wide_limits x = or_else (too_wide x.low_place x.low) (too_wide x.high_place x.high)

-- the first element that is one of those before it
abbrev pub repeated : (WrittenElement → Element) → List Element → List WrittenElement → Option Refusal
repeated element before [] = None
repeated element before (x ∷ xs) =
    if list_any (is_element (element_value (element x))) before
    then Some (detailed rule.DuplicateElement x.place x.text)
    else repeated element (before ++ element x ∷ []) xs

abbrev pub wide_number : Place → Option ℤ → Option Refusal
wide_number place None = None
wide_number place (Some z) = if is_int z then None else Some (plain rule.IntWidth place)

-- an element of more than 32 bits, which no source has
abbrev pub wide_element : WrittenElement → Option Refusal
wide_element x = wide_number x.place x.number

-- the rules of an element's limits

abbrev pub no_constant_of : ElementLimits → Option Refusal
no_constant_of (limit.Width place width) = no_constant place width
no_constant_of (limit.Range x) = no_constants x
no_constant_of limit.Absent = None

abbrev pub empty_of : ElementLimits → Option Refusal
empty_of (limit.Range x) = empty_limits x
empty_of other = None

abbrev pub no_width_of : ElementLimits → Option Refusal
no_width_of (limit.Width place width) = no_width place width
no_width_of other = None

abbrev pub wide_of : ElementLimits → Option Refusal
wide_of (limit.Range x) = wide_limits x
wide_of other = None

abbrev pub written_elements : TypeExpr → List WrittenElement
written_elements (written.Enumeration place elements) = elements
written_elements other = []

-- The rules of a type, in their order. Of each, dimensions come from the outermost, and the element last.
abbrev pub limits_refusal : Program → List Limits → ElementLimits → List WrittenElement → Option Refusal
limits_refusal p dimensions element elements =
    or_else (or_else (first_of no_constants dimensions) (no_constant_of element))
    (or_else (or_else (first_of empty_limits dimensions) (empty_of element))
    (or_else (no_width_of element)
    (or_else (repeated (element_of p) [] elements)
    (or_else (first_of wide_limits dimensions) (or_else (wide_of element) (first_of wide_element elements))))))

-- the first rule that a declaration of an instance breaks
abbrev pub variable_refusal : Program → ℕ → VariableKind → Variable → Option Refusal
variable_refusal p at kind v =
    or_else (instance_refusal kind v.dimensions v.declared)
    (limits_refusal p (map (dimension_limits p at) v.dimensions) (element_limits p at v.declared) (written_elements v.declared))

abbrev pub types_refusal_in : Program → ℕ → Section → Option Refusal
types_refusal_in p at section = first_of (λ (x : VariableKind × Variable). variable_refusal p at x.0 x.1) (variables_in section)

-- the first one of these instances, the first of which has number n
abbrev pub types_refusal_below : Program → ℕ → List Instance → Option Refusal
types_refusal_below p n [] = None
types_refusal_below p n (x ∷ xs) = or_else (first_of (types_refusal_in p n) (sections_of p x.of_module)) (types_refusal_below p (n + 1) xs)

-- the first rule of declared types that is broken, at the first declaration that breaks one
unfoldable pub declared_refusal : Program → Option Refusal
declared_refusal p = types_refusal_below p 0 (instances_of p)
