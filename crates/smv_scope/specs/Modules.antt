-- Modules, and what they declare (NuSMV 2.6 User Manual, 2.3).
use Rattle.std.specs.Prelude.{ℕ, Bool, true, false, List, [], ◌∷◌, map, Option, None, Some, position, slice_get, codes, bytes_eq}
use Rattle.std.specs.List.{flat_map}
use Rattle.smv_tree.specs.declared.tree.Program.{Program}
use Rattle.smv_tree.specs.declared.tree.Module.{Module}
use Rattle.smv_tree.specs.declared.tree.Parameter.{Parameter}
use Rattle.smv_tree.specs.declared.tree.Section.{Section}
use Rattle.smv_tree.specs.declared.tree.Section.TheVariants as section
use Rattle.smv_tree.specs.declared.tree.Variable.{Variable}
use Rattle.smv_tree.specs.declared.tree.VariableKind.{VariableKind}
use Rattle.smv_tree.specs.declared.tree.Definition.{Definition}
use Rattle.smv_tree.specs.declared.tree.Dimension.{Dimension}

-- the number of the first module of this name
abbrev pub module_named : List Module → List ℕ → Option ℕ
module_named modules name = position (λ (m : Module). bytes_eq name m.name) modules

-- the number of the module `main` (manual 2.3.12, The main Module)
abbrev pub main_number : Program → Option ℕ
main_number p = module_named p.modules (codes "main")

abbrev pub sections_in : Option Module → List Section
sections_in None = []
sections_in (Some m) = m.sections

-- the sections of the module of this number
abbrev pub sections_of : Program → ℕ → List Section
sections_of p m = sections_in (slice_get p.modules m)

abbrev pub parameters_in : Option Module → List Parameter
parameters_in None = []
parameters_in (Some m) = m.parameters

-- the parameters of the module of this number
abbrev pub parameters_of : Program → ℕ → List Parameter
parameters_of p m = parameters_in (slice_get p.modules m)

abbrev pub variables_in : Section → List (VariableKind × Variable)
variables_in (section.Variables kind vs) = map (λ (v : Variable). (kind, v)) vs
variables_in other = []

abbrev pub definitions_in : Section → List Definition
definitions_in (section.Definitions ds) = ds
definitions_in other = []

-- the variables of the module of this number, each with its kind, in the order of the source
abbrev pub variables_of : Program → ℕ → List (VariableKind × Variable)
variables_of p m = flat_map variables_in (sections_of p m)

-- the definitions of the module of this number, in the order of the source
abbrev pub definitions_of : Program → ℕ → List Definition
definitions_of p m = flat_map definitions_in (sections_of p m)

abbrev pub has_dimension : List Dimension → Bool
has_dimension [] = false
has_dimension (d ∷ ds) = true

-- the variable is an array, of values or of instances (manual 2.1.6, Array Types)
abbrev pub is_array : Variable → Bool
is_array x = has_dimension x.dimensions
