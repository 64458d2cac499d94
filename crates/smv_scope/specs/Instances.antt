-- The instances of a program in preorder: `main`, and each variable whose type is a module and that is no array (manual
-- 2.3.11, Module Instantiations).
use Rattle.std.specs.Prelude.{ℕ, zero, suc, ◌+◌, ◌==◌, Bool, false, ◌&&◌, if◌then◌else◌, List, [], ◌∷◌, ◌++◌, length, Option, None, Some, position, slice_get}
use Rattle.smv_tree.specs.declared.tree.Program.{Program}
use Rattle.smv_tree.specs.declared.tree.Module.{Module}
use Rattle.smv_tree.specs.declared.tree.Variable.{Variable}
use Rattle.smv_tree.specs.declared.tree.VariableKind.{VariableKind}
use Rattle.smv_tree.specs.declared.tree.TypeExpr.{TypeExpr}
use Rattle.smv_tree.specs.declared.tree.TypeExpr.TheVariants as written
use Rattle.smv_scope.specs.declared.instance.Instance.{Instance}
use Rattle.smv_scope.specs.declared.instance.Parent.{Parent}
use Rattle.smv_scope.specs.Modules.{module_named, main_number, variables_of, is_array}

-- an instance of a module, if there is one, as this variable of this instance
abbrev pub instance_as : ℕ → ℕ → Option ℕ → List Instance
instance_as at v None = []
instance_as at v (Some m) = record { of_module = m; parent = Some (record { instance = at; variable = v }) } ∷ []

abbrev pub child_with : List Module → ℕ → ℕ → TypeExpr → List Instance
child_with modules at v (written.Instance place name given) = instance_as at v (module_named modules name)
child_with modules at v other = []

-- the instance that a variable is, if it is one
abbrev pub child : List Module → ℕ → ℕ → Variable → List Instance
child modules at v x = if is_array x then [] else child_with modules at v x.declared

-- the instances that these variables are, the first of which has number v in the instance of number `at`
abbrev pub children_from : List Module → ℕ → ℕ → List (VariableKind × Variable) → List Instance
children_from modules at v [] = []
children_from modules at v (x ∷ xs) = child modules at v x.1 ++ children_from modules at (v + 1) xs

-- the instances that an instance declares
abbrev pub children : Program → ℕ → Instance → List Instance
children p at x = children_from p.modules at 0 (variables_of p x.of_module)

-- the instances below these roots in preorder, the first of which has number n; `grow` gives a root with those below it
abbrev pub in_preorder : (ℕ → Instance → List Instance) → ℕ → List Instance → List Instance
in_preorder grow n [] = []
in_preorder grow n (x ∷ xs) = grow n x ++ in_preorder grow (n + length (grow n x)) xs

-- the instance of number n with those below it, to this depth
unfoldable pub subtree : Program → ℕ → ℕ → Instance → List Instance
subtree p zero n x = x ∷ []
subtree p (suc depth) n x = x ∷ in_preorder (subtree p depth) (n + 1) (children p n x)

-- no module is an instance of itself, so that instances nest less deep than there are modules
abbrev pub instances_below : Program → Option ℕ → List Instance
instances_below p None = []
instances_below p (Some main) = subtree p (length p.modules) 0 (record { of_module = main; parent = None })

-- the instances of a program
abbrev pub instances_of : Program → List Instance
instances_of p = instances_below p (main_number p)

abbrev pub module_in : Option Instance → Option ℕ
module_in None = None
module_in (Some x) = Some x.of_module

-- the number of the module of an instance
abbrev pub module_at : Program → ℕ → Option ℕ
module_at p at = module_in (slice_get (instances_of p) at)

abbrev pub is_declared_by : ℕ → ℕ → Option Parent → Bool
is_declared_by at v None = false
is_declared_by at v (Some parent) = parent.instance == at && parent.variable == v

-- the number of the instance that a variable of an instance is
abbrev pub child_number : Program → ℕ → ℕ → Option ℕ
child_number p at v = position (λ (x : Instance). is_declared_by at v x.parent) (instances_of p)

-- a program has at most this many instances: an own choice of this project
abbrev pub most_instances : ℕ
most_instances = 100000
