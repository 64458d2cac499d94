-- What stands there and what is to come are the same as before.
use Rattle.std.proofs.Common.{◌≡◌, ◌++◌, drop}
use Rattle.smv_tree.specs.Occurring.{read}
use Rattle.smv_names.specs.Defined.{defined_entries}
use Rattle.smv_names.specs.Entries.{read_entries}
use Rattle.smv_names.proofs.entries.push_defined.Given as goal

abbrev pub invariant-loop-number : goal.invariant-loop-number
invariant-loop-number l =
    read_entries l.entries.items ++ defined_entries l.at l.number (read (drop l.number l.definitions)) ≡ read_entries l.initial.entries.items ++ defined_entries l.at 0 (read l.definitions)
