-- The rules of instances, which are judged in the modules that `main` reaches: an own choice of this project.
use Rattle.std.specs.Prelude.{◌≡◌, ◌≢◌, ℕ, ◌+◌, nat_lt, false, if◌then◌else◌, List, [], ◌∷◌, length, map, Option, None, Some, slice_get}
use mathlib.Core.Logic.{◌⊎◌}
use Rattle.std.specs.List.{flat_map}
use Rattle.digraph.specs.Cycles.{Leads}
use Rattle.smv_tree.specs.declared.place.Place.{Place}
use Rattle.smv_tree.specs.declared.refusal.Refusal.{Refusal}
use Rattle.smv_tree.specs.declared.refusal.Rule.TheVariants as rule
use Rattle.smv_tree.specs.declared.tree.Program.{Program}
use Rattle.smv_tree.specs.declared.tree.Module.{Module}
use Rattle.smv_tree.specs.declared.tree.Section.{Section}
use Rattle.smv_tree.specs.declared.tree.Section.TheVariants as section
use Rattle.smv_tree.specs.declared.tree.Variable.{Variable}
use Rattle.smv_tree.specs.declared.tree.TypeExpr.{TypeExpr}
use Rattle.smv_tree.specs.declared.tree.TypeExpr.TheVariants as written
use Rattle.smv_tree.specs.declared.tree.Expr.{Expr}
use Rattle.smv_tree.specs.Places.{start}
use Rattle.smv_scope.specs.Modules.{is_array, module_named, main_number, parameters_of}
use Rattle.smv_scope.specs.Instances.{instances_of, most_instances}
use Rattle.smv_names.specs.declared.reached.UseRule.{UseRule}
use Rattle.smv_names.specs.declared.reached.UseRule.TheVariants as asked
use Rattle.smv_verdicts.specs.Verdicts.{Verdict, Claim, Each, Then, plain, detailed}

abbrev pub some_only : Option ℕ → List ℕ
some_only None = []
some_only (Some n) = n ∷ []

-- the module that a type names
abbrev pub module_of_type : List Module → TypeExpr → List ℕ
module_of_type modules (written.Instance place name given) = some_only (module_named modules name)
module_of_type modules other = []

-- the module of which a variable is an instance, if it is one: an array of instances is none
abbrev pub module_of_variable : List Module → Variable → List ℕ
module_of_variable modules v = if is_array v then [] else module_of_type modules v.declared

-- the modules that a section uses
abbrev pub modules_in : List Module → Section → List ℕ
modules_in modules (section.Variables kind vs) = flat_map (module_of_variable modules) vs
modules_in modules other = []

-- the modules that a module uses
abbrev pub modules_used : List Module → Module → List ℕ
modules_used modules m = flat_map (modules_in modules) m.sections

-- the graph of modules: each leads to those that it uses
abbrev pub module_graph : Program → List (List ℕ)
module_graph p = map (modules_used p.modules) p.modules

-- one node is the other, or leads to it
abbrev pub Reaches : List (List ℕ) → ℕ → ℕ → Type 0
Reaches g a b = (a ≡ b) ⊎ Leads g a b

abbrev pub ReachesFrom : List (List ℕ) → Option ℕ → ℕ → Type 0
ReachesFrom g None b = ⊥
ReachesFrom g (Some a) b = Reaches g a b

-- `main` reaches the module of this number
abbrev pub FromMain : Program → ℕ → Type 0
FromMain p n = ReachesFrom (module_graph p) (main_number p) n

abbrev pub Miscounted : Program → List Expr → Option ℕ → Type 0
Miscounted p given None = ⊥
Miscounted p given (Some m) = length given ≢ length (parameters_of p m)

-- What is judged of a variable of a module that is reached, where its type, or that of its elements, is a name: it
-- names a module; the module of an instance does not reach the one that declares the variable; it has as many
-- parameters as it is given expressions (manual 2.3.11, Module Instantiations).
abbrev pub named_type : UseRule → Program → ℕ → Variable → Place → List ℕ → List Expr → Verdict
named_type asked.Unknown p n v place name given = Claim (FromMain p n × (module_named p.modules name ≡ None)) (detailed rule.UnknownModule place name)
named_type asked.Cyclic p n v place name given = Claim (FromMain p n × (is_array v ≡ false) × ReachesFrom (module_graph p) (module_named p.modules name) n) (detailed rule.ModuleCycle v.place v.name)
named_type asked.Miscounted p n v place name given = Claim (FromMain p n × Miscounted p given (module_named p.modules name)) (detailed rule.ArgumentCount place name)

abbrev pub use_verdict : UseRule → Program → ℕ → Variable → TypeExpr → Verdict
use_verdict which p n v (written.Instance place name given) r = named_type which p n v place name given r
use_verdict which p n v other r = r ≡ None

abbrev pub section_verdict : UseRule → Program → ℕ → Section → Verdict
section_verdict which p n (section.Variables kind vs) r = Each (λ (v : Variable). use_verdict which p n v v.declared) vs r
section_verdict which p n other r = r ≡ None

-- the verdict on these modules, the first of which has number n
abbrev pub modules_verdict : UseRule → Program → ℕ → List Module → Verdict
modules_verdict which p n [] r = r ≡ None
modules_verdict which p n (m ∷ ms) r = Then (Each (section_verdict which p n) m.sections) (modules_verdict which p (n + 1) ms) r

-- the verdict of a rule on the uses of modules, in the order of the source
abbrev pub uses_verdict : UseRule → Program → Verdict
uses_verdict which p = modules_verdict which p 0 p.modules

abbrev pub name_place : Option Module → Place
name_place None = start
name_place (Some m) = m.name_place

abbrev pub place_of_main : Program → Option ℕ → Place
place_of_main p None = start
place_of_main p (Some main) = name_place (slice_get p.modules main)

-- there are not too many instances: refused at the name of `main`
abbrev pub too_many_instances : Program → Option Refusal
too_many_instances p = if nat_lt most_instances (length (instances_of p)) then Some (plain rule.TooManyInstances (place_of_main p (main_number p))) else None
