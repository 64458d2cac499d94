-- The variables that have values: all but those that are instances. They are numbered instance by instance, in the
-- order of the source.
use Rattle.std.specs.Prelude.{ℕ, ◌+◌, Bool, true, false, ◌||◌, not, List, Option, None, Some, take, count_by, sum_by}
use Rattle.smv_tree.specs.declared.tree.Program.{Program}
use Rattle.smv_tree.specs.declared.tree.Variable.{Variable}
use Rattle.smv_tree.specs.declared.tree.VariableKind.{VariableKind}
use Rattle.smv_tree.specs.declared.tree.TypeExpr.{TypeExpr}
use Rattle.smv_tree.specs.declared.tree.TypeExpr.TheVariants as written
use Rattle.smv_scope.specs.declared.instance.Instance.{Instance}
use Rattle.smv_scope.specs.Modules.{variables_of, is_array}
use Rattle.smv_scope.specs.Instances.{instances_of, module_at}

abbrev pub is_instance_type : TypeExpr → Bool
is_instance_type (written.Instance place name given) = true
is_instance_type other = false

-- the variable has a value, or is an array
abbrev pub holds : Variable → Bool
holds x = is_array x || not (is_instance_type x.declared)

-- so many of these variables do
abbrev pub held_by : List (VariableKind × Variable) → ℕ
held_by xs = count_by (λ (x : VariableKind × Variable). holds x.1) xs

-- so many do of the variables of a module that stand before the one of this number
abbrev pub rank_of : Program → ℕ → ℕ → ℕ
rank_of p m v = held_by (take v (variables_of p m))

-- so many do in these instances
abbrev pub held_in : Program → List Instance → ℕ
held_in p tree = sum_by (λ (x : Instance). held_by (variables_of p x.of_module)) tree

-- so many do in the instances before the one of this number
abbrev pub held_before : Program → ℕ → ℕ
held_before p at = held_in p (take at (instances_of p))

abbrev pub number_in : Program → ℕ → ℕ → Option ℕ → Option ℕ
number_in p at v None = None
number_in p at v (Some m) = Some (held_before p at + rank_of p m v)

-- the number of a variable of an instance among those that have values
abbrev pub holder_number : Program → ℕ → ℕ → Option ℕ
holder_number p at v = number_in p at v (module_at p at)
