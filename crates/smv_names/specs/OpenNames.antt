-- The names of a module that are looked up in each of its instances. Of the others it is known that they lead somewhere.
use Rattle.std.specs.Prelude.{◌≡◌, ℕ, List, Option, None, Some, Vec}
use Rattle.std.specs.Borrow.{Bor}
use Rattle.smv_tree.specs.declared.refusal.Refusal.{Refusal}
use Rattle.smv_tree.specs.declared.tree.Program.{Program}
use Rattle.smv_tree.specs.declared.tree.Name.{Name}
use Rattle.smv_tree.specs.Occurring.{read}
use Rattle.smv_scope.specs.Instances.{module_at}
use Rattle.smv_scope.specs.Lookup.{Target}
use Rattle.smv_scope.specs.Modules.{sections_of}
use Rattle.smv_verdicts.specs.Verdicts.{first_of}
use Rattle.smv_names.specs.Named.{unknown_identifier, unknown_in_name, unknown_in_sections}

-- the refusal of a name that stands in the instance of this number
abbrev pub unknown_name : Program → ℕ → Name → Option Refusal
unknown_name p at name = unknown_identifier (unknown_in_name p at name)

-- where an own name leads to one of these, it leads somewhere in each instance of the module
abbrev pub StaysKnown : Target → Type 0
StaysKnown (Target.Variable n) = Unit {0}
StaysKnown (Target.Defined at k e) = Unit {0}
StaysKnown (Target.Symbol n) = Unit {0}
StaysKnown other = ⊥

-- the name leads somewhere in each instance of the module of this one
abbrev pub IsClosedName : Program → ℕ → Name → Type 0
IsClosedName p from name = (to : ℕ) → module_at p to ≡ module_at p from → unknown_in_name p to name ≡ None

-- of each instance of the module of this one, the open names say what all do
abbrev pub SayAll : Program → ℕ → List Name → List Name → Type 0
SayAll p from all again = (to : ℕ) → module_at p to ≡ module_at p from → first_of (unknown_name p to) again ≡ first_of (unknown_name p to) all

-- of each instance of the module of this number, these names say what its sections do
abbrev pub SayInModule : Program → ℕ → List Name → Type 0
SayInModule p m again = (to : ℕ) → module_at p to ≡ Some m → first_of (unknown_name p to) again ≡ unknown_in_sections p to (sections_of p m)

-- so do the names of each module that is noted
abbrev pub AreOpen : {Z : Type 0} → Program → (ℕ → Option (Vec (Bor Name) Z)) → Type 0
AreOpen {Z} p noted = (m : ℕ) (again : Vec (Bor Name) Z) → noted m ≡ Some again → SayInModule p m (read again.items)
