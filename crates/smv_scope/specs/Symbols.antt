-- Symbol tables: which declaration a name is, and where declarations stand.
use Rattle.std.specs.Prelude.{◌≡◌, ℕ, zero, suc, ◌+◌, Bool, ◌&&◌, ◌==◌, if◌then◌else◌, List, [], ◌∷◌, ◌++◌, length, Option, None, Some, position, slice_get, bytes_eq, String}
use Rattle.std.specs.List.{flat_map}
use Rattle.std.specs.HashMap.{HashMap, get_by_text}
use Rattle.smv_tree.specs.declared.tree.Program.{Program}
use Rattle.smv_tree.specs.declared.tree.Module.{Module}
use Rattle.smv_tree.specs.declared.tree.Section.{Section}
use Rattle.smv_tree.specs.declared.tree.Parameter.{Parameter}
use Rattle.smv_tree.specs.declared.tree.Variable.{Variable}
use Rattle.smv_tree.specs.declared.tree.VariableKind.{VariableKind}
use Rattle.smv_tree.specs.declared.tree.Definition.{Definition}
use Rattle.smv_scope.specs.declared.instance.Instance.{Instance}
use Rattle.smv_scope.specs.declared.instance.Parent.{Parent}
use Rattle.smv_scope.specs.declared.symbols.Spot.{Spot}
use Rattle.smv_scope.specs.declared.symbols.SymbolTable.{SymbolTable}
use Rattle.smv_scope.specs.Modules.{module_named, variables_in, definitions_in, variables_of}
use Rattle.smv_scope.specs.Holders.{holds, held_by}

-- what a table had for a key, and else n, if the key is the new one
abbrev pub first_of : Option ℕ → Bool → ℕ → Option ℕ
first_of (Some k) same n = Some k
first_of None same n = if same then Some n else None

abbrev pub same_variable : Parent → Parent → Bool
same_variable x y = (x.instance == y.instance) && (x.variable == y.variable)

-- the number of each module that bears a name first
abbrev pub AreNumbered : {Y S : Type 0} → List Module → HashMap (String Y) ℕ S → Type 0
AreNumbered modules numbers = (name : List ℕ) → get_by_text numbers name ≡ module_named modules name

-- what the sections declare at a spot, where `declares` gives what a section declares
abbrev pub declared_in : {A : Type 0} → (Section → List A) → ℕ → Option Section → Option A
declared_in declares i None = None
declared_in declares i (Some x) = slice_get (declares x) i

abbrev pub declared_at : {A : Type 0} → (Section → List A) → List Section → Spot → Option A
declared_at declares sections spot = declared_in declares spot.index (slice_get sections spot.section)

-- the spots of so many declarations of the section of this number
abbrev pub spots_in : ℕ → ℕ → List Spot
spots_in section zero = []
spots_in section (suc n) = spots_in section n ++ record { section = section; index = n } ∷ []

-- the spots of all that the sections declare, in order, the first of which has number k
abbrev pub spots_of : {A : Type 0} → (Section → List A) → ℕ → List Section → List Spot
spots_of declares k [] = []
spots_of declares k (x ∷ xs) = spots_in k (length (declares x)) ++ spots_of declares (k + 1) xs

-- for each of these variables how many have values of those before it, where so many do before them
abbrev pub ranks_from : ℕ → List (VariableKind × Variable) → List ℕ
ranks_from n [] = []
ranks_from n (x ∷ xs) = n ∷ ranks_from (n + (if holds x.1 then 1 else 0)) xs

-- for each of these instances how many variables have values in those before it, where so many do before them
abbrev pub first_holders_from : Program → ℕ → List Instance → List ℕ
first_holders_from p n [] = []
first_holders_from p n (x ∷ xs) = n ∷ first_holders_from p (n + held_by (variables_of p x.of_module)) xs

-- what a table says; where there is none, no name is known

abbrev pub parameter_by : Option SymbolTable → List ℕ → Option ℕ
parameter_by None name = None
parameter_by (Some table) name = get_by_text table.parameters name

abbrev pub variable_by : Option SymbolTable → List ℕ → Option ℕ
variable_by None name = None
variable_by (Some table) name = get_by_text table.variables name

abbrev pub definition_by : Option SymbolTable → List ℕ → Option ℕ
definition_by None name = None
definition_by (Some table) name = get_by_text table.definitions name

abbrev pub variable_spots_by : Option SymbolTable → List Spot
variable_spots_by None = []
variable_spots_by (Some table) = table.variable_spots

abbrev pub definition_spots_by : Option SymbolTable → List Spot
definition_spots_by None = []
definition_spots_by (Some table) = table.definition_spots

abbrev pub ranks_by : Option SymbolTable → List ℕ
ranks_by None = []
ranks_by (Some table) = table.ranks

abbrev pub holders_by : Option SymbolTable → ℕ
holders_by None = 0
holders_by (Some table) = table.holders

-- the number of each parameter, variable and definition that bears a name first, the spots of variables and
-- definitions, and how many variables have values
abbrev pub IsTableOf : List Parameter → List Section → Option SymbolTable → Type 0
IsTableOf parameters sections table =
    ((name : List ℕ) → parameter_by table name ≡ position (λ (x : Parameter). bytes_eq name x.name) parameters)
    × ((name : List ℕ) → variable_by table name ≡ position (λ (x : VariableKind × Variable). bytes_eq name x.1.name) (flat_map variables_in sections))
    × ((name : List ℕ) → definition_by table name ≡ position (λ (d : Definition). bytes_eq name d.name) (flat_map definitions_in sections))
    × (variable_spots_by table ≡ spots_of variables_in 0 sections)
    × (definition_spots_by table ≡ spots_of definitions_in 0 sections)
    × (ranks_by table ≡ ranks_from 0 (flat_map variables_in sections))
    × (holders_by table ≡ held_by (flat_map variables_in sections))
