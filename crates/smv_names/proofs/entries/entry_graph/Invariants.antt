-- What the entries so far name.
use Rattle.std.proofs.Common.{◌≡◌, map, take}
use Rattle.smv_names.specs.Defined.{entries_named}
use Rattle.smv_names.specs.Entries.{read_entries}
use Rattle.smv_names.proofs.entries.entry_graph.Given as goal

abbrev pub invariant-loop-x : goal.invariant-loop-x
invariant-loop-x l = l.graph.items ≡ map (entries_named l.scope.program) (read_entries (take l.x-index l.entries))
