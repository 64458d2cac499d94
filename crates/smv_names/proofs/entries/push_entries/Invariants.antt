-- What stands there and what is to come are all.
use Rattle.std.proofs.Common.{◌≡◌, ◌++◌, drop}
use Rattle.smv_names.specs.Defined.{entries_below, entries_of}
use Rattle.smv_names.specs.Entries.{read_entries}
use Rattle.smv_names.proofs.entries.push_entries.Given as goal

abbrev pub invariant-loop-n : goal.invariant-loop-n
invariant-loop-n l = read_entries l.entries.items ++ entries_below l.scope.program l.n (drop l.n l.scope.tree) ≡ read_entries l.initial.entries.items ++ entries_of l.scope.program
