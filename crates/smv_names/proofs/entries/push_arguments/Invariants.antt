-- What stands there and what is to come are the same as before.
use Rattle.std.proofs.Common.{◌≡◌, ◌++◌, drop}
use Rattle.smv_names.specs.Defined.{given_entries}
use Rattle.smv_names.specs.Entries.{read_entries}
use Rattle.smv_names.proofs.entries.push_arguments.Given as goal

abbrev pub invariant-loop-parameter : goal.invariant-loop-parameter
invariant-loop-parameter l =
    read_entries l.entries.items ++ given_entries l.at l.owner l.parameter (drop l.parameter l.arguments) ≡ read_entries l.initial.entries.items ++ given_entries l.at l.owner 0 l.arguments
