-- The types of variables, as they are declared (NuSMV 2.6 User Manual, 2.1, Types Overview; 2.3.1, Variable Declarations).
use Rattle.std.specs.Prelude.{◌≡◌, ℕ, ◌+◌, ◌*◌, ◌<◌, ◌≤◌, Bool, ◌&&◌, nat_le, if◌then◌else◌, List, [], ◌∷◌, ◌++◌, map, sum_by, Option, None, Some, ℤ, pos, ◌+ℤ◌, ◌-ℤ◌}
use Rattle.std.specs.List.{flat_map, list_all}
use Rattle.smv_value.specs.Results.{is_int, natural}
use Rattle.smv_tree.specs.declared.tree.Program.{Program}
use Rattle.smv_tree.specs.declared.tree.Section.{Section}
use Rattle.smv_tree.specs.declared.tree.Dimension.{Dimension}
use Rattle.smv_tree.specs.declared.tree.Expr.{Expr}
use Rattle.smv_tree.specs.declared.tree.TypeExpr.{TypeExpr}
use Rattle.smv_tree.specs.declared.tree.TypeExpr.TheVariants as written
use Rattle.smv_tree.specs.declared.tree.Variable.{Variable}
use Rattle.smv_tree.specs.declared.tree.VariableKind.{VariableKind}
use Rattle.smv_tree.specs.declared.tree.WrittenElement.{WrittenElement}
use Rattle.value_types.specs.declared.value_type.Element.{Element}
use Rattle.value_types.specs.declared.value_type.Element.TheVariants as element
use Rattle.value_types.specs.declared.value_type.ValueType.{ValueType}
use Rattle.value_types.specs.declared.value_type.ValueType.TheVariants as type
use Rattle.value_types.specs.Types.{is_type}
use Rattle.smv_scope.specs.declared.instance.Instance.{Instance}
use Rattle.smv_scope.specs.Modules.{sections_of, variables_in}
use Rattle.smv_scope.specs.Instances.{instances_of}
use Rattle.smv_scope.specs.Holders.{holds}
use Rattle.smv_scope.specs.Enumerated.{symbol_number}
use Rattle.smv_resolve.specs.Resolved.{wholly_resolved}
use Rattle.smv_declared.specs.declared.constant.Constant.{Constant}
use Rattle.smv_declared.specs.declared.constant.Constant.TheVariants.{Integer}
use Rattle.smv_declared.specs.declared.variable_type.Bounds.{Bounds}
use Rattle.smv_declared.specs.declared.variable_type.VariableType.{VariableType}
use Rattle.smv_declared.specs.declared.variable_type.Declared.{Declared}
use Rattle.smv_declared.specs.declared.variable_type.Declared.TheVariants as declared
use Rattle.smv_declared.specs.Constants.{constant_of}

-- what a bound or a width of a type is, in the instance of this number
abbrev pub bound_of : Program → ℕ → Expr → Constant
bound_of p at e = constant_of (wholly_resolved p at e)

-- the number; 0 of what is no constant
abbrev pub number_of : Constant → ℤ
number_of (Integer z) = z
number_of other = pos 0

abbrev pub number_or_zero : Option ℕ → ℕ
number_or_zero None = 0
number_or_zero (Some n) = n

abbrev pub element_by : Program → List ℕ → Option ℤ → Element
element_by p text (Some z) = element.Int z
element_by p text None = element.Sym (number_or_zero (symbol_number p text))

-- an element of an enumeration: an integer, or the symbol of this name
abbrev pub element_of : Program → WrittenElement → Element
element_of p x = element_by p x.text x.number

-- The type that is declared so in an instance. Where the rules let it stand, it is a type.
abbrev pub type_of : Program → ℕ → TypeExpr → ValueType
type_of p at (written.Boolean place) = type.Boolean
type_of p at (written.Word place signed width) = type.Word signed (natural (number_of (bound_of p at width)))
type_of p at (written.Range place low high) = type.Range (number_of (bound_of p at low)) (number_of (bound_of p at high))
type_of p at (written.Enumeration place elements) = type.Enumeration (map (element_of p) elements)
type_of p at (written.Instance place name given) = type.Boolean

-- the indices from the first integer to the second
abbrev pub bounds_between : ℤ → ℤ → Bounds
bounds_between low high = record { low = low; count = natural (high -ℤ low +ℤ pos 1) }

abbrev pub bounds_by : Program → ℕ → Dimension → Bounds
bounds_by p at d = bounds_between (number_of (bound_of p at d.low)) (number_of (bound_of p at d.high))

-- the type of a variable of an instance (manual 2.1.6, Array Types)
abbrev pub variable_type : Program → ℕ → Variable → VariableType
variable_type p at v = record { dimensions = map (bounds_by p at) v.dimensions; element = type_of p at v.declared }

-- the type of a variable that holds a value; none of an instance
abbrev pub types_with : Program → ℕ → Variable → List VariableType
types_with p at v = if holds v then variable_type p at v ∷ [] else []

abbrev pub types_in : Program → ℕ → Section → List VariableType
types_in p at section = flat_map (λ (x : VariableKind × Variable). types_with p at x.1) (variables_in section)

-- the types of the variables of these instances, the first of which has number n
abbrev pub types_below : Program → ℕ → List Instance → List VariableType
types_below p n [] = []
types_below p n (x ∷ xs) = flat_map (types_in p n) (sections_of p x.of_module) ++ types_below p (n + 1) xs

-- the type of each variable of a program that holds values: instance by instance, in the order of the source
unfoldable pub variable_types_of : Program → List VariableType
variable_types_of p = types_below p 0 (instances_of p)

-- how many elements an array of these dimensions has; one where there are none
abbrev pub size_of : List Bounds → ℕ
size_of [] = 1
size_of (b ∷ bs) = b.count * size_of bs

-- how many values variables of these types hold
abbrev pub slots_in : List VariableType → ℕ
slots_in types = sum_by (λ (t : VariableType). size_of t.dimensions) types

abbrev pub slot_count : Program → ℕ
slot_count p = slots_in (variable_types_of p)

-- a program has at most this many slots: an own choice of this project
abbrev pub most_slots : ℕ
most_slots = 65536

-- the types are these, or they have too many slots
abbrev pub Tells : List VariableType → Declared → Type 0
Tells all (declared.Types types) = (types ≡ all) × (slots_in all ≤ most_slots)
Tells all declared.TooMany = most_slots < slots_in all

-- there is an index, and each has 32 bits
abbrev pub is_bounds : Bounds → Bool
is_bounds b = nat_le 1 b.count && is_int b.low && is_int (b.low +ℤ pos b.count -ℤ pos 1)

-- what a declared type keeps, of an array each of its dimensions and its element's type
abbrev pub is_variable_type : VariableType → Bool
is_variable_type t = list_all is_bounds t.dimensions && is_type t.element
