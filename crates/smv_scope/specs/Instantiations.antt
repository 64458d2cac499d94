-- The variables of modules that are instances of modules, listed for each module.
use Rattle.std.specs.Prelude.{◌≡◌, ℕ, List, [], map, Option, None, Some, slice_get}
use Rattle.smv_tree.specs.declared.tree.Program.{Program}
use Rattle.smv_scope.specs.declared.instance.Instance.{Instance}
use Rattle.smv_scope.specs.declared.instantiations.Instantiation.{Instantiation}
use Rattle.smv_scope.specs.Instances.{children_from}
use Rattle.smv_scope.specs.Modules.{variables_of}

-- the instance that a variable is in the instance of this number
abbrev pub instance_by : ℕ → Instantiation → Instance
instance_by at x = record { of_module = x.of_module; parent = Some (record { instance = at; variable = x.variable }) }

-- the instances that these variables are there
abbrev pub instances_by : ℕ → List Instantiation → List Instance
instances_by at list = map (instance_by at) list

abbrev pub listed_in : Option (List Instantiation) → List Instantiation
listed_in None = []
listed_in (Some list) = list

-- the list of each module gives the instances that each instance of it declares
abbrev pub AreListed : Program → List (List Instantiation) → Type 0
AreListed p lists = (m at : ℕ) → instances_by at (listed_in (slice_get lists m)) ≡ children_from p.modules at 0 (variables_of p m)
