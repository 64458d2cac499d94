-- Entries as they are kept.
use Rattle.std.specs.Prelude.{List, map}
use Rattle.sat_prop.specs.declared.lists.Watcher.{Watcher}
use Rattle.sat_prop.specs.declared.lists.PackedWatcher.{PackedWatcher}
use Rattle.sat_prop.specs.Words.{literal_of}

-- the entry that a slot keeps
abbrev pub entry_of : PackedWatcher → Watcher
entry_of s = record { clause = s.clause; blocker = literal_of s.blocker }

-- the entries of a list
abbrev pub entries_of : List PackedWatcher → List Watcher
entries_of slots = map entry_of slots
