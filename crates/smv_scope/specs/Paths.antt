-- The names of instances and variables, as they are printed.
use Rattle.std.specs.Prelude.{ℕ, zero, suc, List, [], ◌∷◌, ◌++◌, length, Option, None, Some, slice_get, codes}
use Rattle.smv_tree.specs.declared.tree.Program.{Program}
use Rattle.smv_tree.specs.declared.tree.Variable.{Variable}
use Rattle.smv_tree.specs.declared.tree.VariableKind.{VariableKind}
use Rattle.smv_scope.specs.declared.instance.Parent.{Parent}
use Rattle.smv_scope.specs.Modules.{variables_of}
use Rattle.smv_scope.specs.Instances.{instances_of, module_at}
use Rattle.smv_scope.specs.Lookup.{parent_at}

abbrev pub name_in : Option (VariableKind × Variable) → List ℕ
name_in None = []
name_in (Some x) = x.1.name

abbrev pub name_in_module : Program → ℕ → Option ℕ → List ℕ
name_in_module p v None = []
name_in_module p v (Some m) = name_in (slice_get (variables_of p m) v)

-- the own name of a variable of an instance
abbrev pub variable_name : Program → ℕ → ℕ → List ℕ
variable_name p at v = name_in_module p v (module_at p at)

-- a name behind the path of its instance
abbrev pub joined : List ℕ → List ℕ → List ℕ
joined [] name = name
joined (b ∷ path) name = (b ∷ path) ++ codes "." ++ name

abbrev pub path_behind : Program → (ℕ → List ℕ) → Option Parent → List ℕ
path_behind p path None = []
path_behind p path (Some parent) = joined (path parent.instance) (variable_name p parent.instance parent.variable)

-- the names of the variables that lead from `main` to an instance, with dots between, where at most so many do
unfoldable pub path_within : Program → ℕ → ℕ → List ℕ
path_within p zero at = []
path_within p (suc most) at = path_behind p (path_within p most) (parent_at p at)

-- the path of an instance; that of `main` is empty
abbrev pub path_of : Program → ℕ → List ℕ
path_of p at = path_within p (length (instances_of p)) at

-- the path of an instance as it is printed
abbrev pub shown_path : List ℕ → List ℕ
shown_path [] = codes "main"
shown_path (b ∷ path) = b ∷ path
