-- The symbols of a program: the names among the elements of its enumerations and of `CONSTANTS` (manual 2.1.4,
-- Enumeration Types; 2.3.4, CONSTANTS declarations), in the modules of which there is an instance.
use Rattle.std.specs.Prelude.{ℕ, ℤ, ◌+◌, ◌==◌, List, [], ◌∷◌, ◌++◌, map, Option, None, Some, position, bytes_eq}
use Rattle.std.specs.List.{flat_map}
use Rattle.smv_tree.specs.declared.tree.Program.{Program}
use Rattle.smv_tree.specs.declared.tree.Module.{Module}
use Rattle.smv_tree.specs.declared.tree.Section.{Section}
use Rattle.smv_tree.specs.declared.tree.Section.TheVariants as section
use Rattle.smv_tree.specs.declared.tree.Variable.{Variable}
use Rattle.smv_tree.specs.declared.tree.Identifier.{Identifier}
use Rattle.smv_tree.specs.declared.tree.TypeExpr.{TypeExpr}
use Rattle.smv_tree.specs.declared.tree.TypeExpr.TheVariants as written
use Rattle.smv_tree.specs.declared.tree.WrittenElement.{WrittenElement}
use Rattle.smv_scope.specs.declared.instance.Instance.{Instance}
use Rattle.smv_scope.specs.Instances.{instances_of}

abbrev pub symbol_unless : Option ℤ → List ℕ → List (List ℕ)
symbol_unless None text = text ∷ []
symbol_unless (Some number) text = []

-- an element that is no number is a symbol
abbrev pub symbol_in : WrittenElement → List (List ℕ)
symbol_in x = symbol_unless x.number x.text

abbrev pub symbols_in_type : TypeExpr → List (List ℕ)
symbols_in_type (written.Enumeration place elements) = flat_map symbol_in elements
symbols_in_type other = []

-- the symbols that a section names, as often as it does
abbrev pub symbols_in : Section → List (List ℕ)
symbols_in (section.Variables kind vs) = flat_map (λ (v : Variable). symbols_in_type v.declared) vs
symbols_in (section.Constants names) = map (λ (x : Identifier). x.name) names
symbols_in other = []

-- the first of these instances that is one of the module of this number
abbrev pub first_instance : List Instance → ℕ → Option ℕ
first_instance tree m = position (λ (x : Instance). x.of_module == m) tree

abbrev pub symbols_if : Option ℕ → List Section → List (List ℕ)
symbols_if None sections = []
symbols_if (Some n) sections = flat_map symbols_in sections

-- the symbols of those of these modules, the first of which has number k, of which there is an instance
abbrev pub symbols_from : List Instance → ℕ → List Module → List (List ℕ)
symbols_from tree k [] = []
symbols_from tree k (m ∷ ms) = symbols_if (first_instance tree k) m.sections ++ symbols_from tree (k + 1) ms

-- the symbols of a program in the order of the source, as often as they are named
abbrev pub symbols_of : Program → List (List ℕ)
symbols_of p = symbols_from (instances_of p) 0 p.modules

-- the number of a symbol is where it is named first
abbrev pub symbol_number : Program → List ℕ → Option ℕ
symbol_number p name = position (λ (symbol : List ℕ). bytes_eq name symbol) (symbols_of p)
