-- Entries as the code holds them: their expressions and definitions are lent, and a table has their numbers.
use Rattle.std.specs.Prelude.{◌≡◌, ℕ, Bool, true, false, if◌then◌else◌, List, map, position}
use Rattle.std.specs.HashMap.{HashMap, get}
use Rattle.smv_names.specs.declared.entries.DefinitionEntry.{DefinitionEntry}
use Rattle.smv_names.specs.declared.entries.DefinitionEntry.TheVariants as lent
use Rattle.smv_scope.specs.declared.target.Shared.{Shared}
use Rattle.smv_scope.specs.Targets.{shared_eq}
use Rattle.smv_names.specs.Defined.{Entry, is_defined, is_given}

abbrev pub read_entry : DefinitionEntry → Entry
read_entry (lent.Given at k owner e) = Entry.Given at k owner e.now
read_entry (lent.Defined at k d) = Entry.Defined at k d.now

abbrev pub read_entries : List DefinitionEntry → List Entry
read_entries entries = map read_entry entries

-- what an entry is a word for
abbrev pub key_of : Entry → Shared
key_of (Entry.Given at k owner e) = record { is_definition = false; at = at; number = k }
key_of (Entry.Defined at k d) = record { is_definition = true; at = at; number = k }

-- the entry is a word for this
abbrev pub is_keyed : Shared → Entry → Bool
is_keyed key x = if key.is_definition then is_defined key.at key.number x else is_given key.at key.number x

-- the number of the first entry of each key
abbrev pub AreEntryNumbers : {S : Type 0} → List Entry → HashMap Shared ℕ S → Type 0
AreEntryNumbers entries numbers = (key : Shared) → get shared_eq numbers key ≡ position (is_keyed key) entries
