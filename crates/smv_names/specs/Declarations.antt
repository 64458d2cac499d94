-- The rules of what modules declare, which are judged in each module of the text: an own choice of this project.
use Rattle.std.specs.Prelude.{ℕ, Bool, if◌then◌else◌, List, [], ◌∷◌, ◌++◌, map, Option, None, Some, codes, bytes_eq}
use Rattle.std.specs.List.{flat_map, list_any}
use Rattle.smv_tree.specs.declared.place.Place.{Place}
use Rattle.smv_tree.specs.declared.refusal.Refusal.{Refusal}
use Rattle.smv_tree.specs.declared.refusal.Rule.{Rule}
use Rattle.smv_tree.specs.declared.refusal.Rule.TheVariants as rule
use Rattle.smv_tree.specs.declared.tree.Program.{Program}
use Rattle.smv_tree.specs.declared.tree.Module.{Module}
use Rattle.smv_tree.specs.declared.tree.Parameter.{Parameter}
use Rattle.smv_tree.specs.declared.tree.Section.{Section}
use Rattle.smv_tree.specs.declared.tree.Section.TheVariants as section
use Rattle.smv_tree.specs.declared.tree.Variable.{Variable}
use Rattle.smv_tree.specs.declared.tree.Definition.{Definition}
use Rattle.smv_tree.specs.Places.{start}
use Rattle.smv_verdicts.specs.Verdicts.{or_else, first_of, plain, detailed}

-- an identifier at its place
abbrev pub Named : Type 0
Named = Place × List ℕ

-- the name stands among these
abbrev pub has_name : List Named → List ℕ → Bool
has_name names name = list_any (λ (x : Named). bytes_eq x.1 name) names

-- by this rule the first name is refused that stands among those before it
abbrev pub repeated : Rule → List Named → List Named → Option Refusal
repeated r before [] = None
repeated r before (x ∷ xs) = if has_name before x.1 then Some (detailed r x.0 x.1) else repeated r (before ++ x ∷ []) xs

-- each module has a name of its own: refused at the keyword of the second
abbrev pub duplicate_modules : Program → Option Refusal
duplicate_modules p = repeated rule.DuplicateModule [] (map (λ (m : Module). (m.place, m.name)) p.modules)

-- a module of this name
abbrev pub has_module : List ℕ → List Module → Bool
has_module name modules = list_any (λ (m : Module). bytes_eq name m.name) modules

-- there is a module `main` (manual 2.3.12, The main Module)
abbrev pub no_main : Program → Option Refusal
no_main p = if has_module (codes "main") p.modules then None else Some (plain rule.NoMain start)

-- the first parameter is refused
abbrev pub first_parameter : List Parameter → Option Refusal
first_parameter [] = None
first_parameter (x ∷ xs) = Some (plain rule.MainHasParameters x.place)

-- the parameters of a module, if it is `main`
abbrev pub parameters_of_main : Module → Option Refusal
parameters_of_main m = if bytes_eq (codes "main") m.name then first_parameter m.parameters else None

-- `main` has no parameters (manual 2.3.12, The main Module)
abbrev pub main_parameters : Program → Option Refusal
main_parameters p = first_of parameters_of_main p.modules

-- the names that a section declares
abbrev pub names_declared_in : Section → List Named
names_declared_in (section.Variables kind vs) = map (λ (v : Variable). (v.place, v.name)) vs
names_declared_in (section.Definitions ds) = map (λ (d : Definition). (d.place, d.name)) ds
names_declared_in other = []

-- the names that a module declares, in the order of the text
abbrev pub declared_names : Module → List Named
declared_names m = map (λ (x : Parameter). (x.place, x.name)) m.parameters ++ flat_map names_declared_in m.sections

-- a module declares each name once
abbrev pub duplicate_names : Program → Option Refusal
duplicate_names p = first_of (λ m. repeated rule.DuplicateName [] (declared_names m)) p.modules

-- the first refusal by these rules
abbrev pub declared_refusal : Program → Option Refusal
declared_refusal p = or_else (duplicate_modules p) (or_else (no_main p) (or_else (main_parameters p) (duplicate_names p)))
