-- What is left of the members gives what all give.
use Rattle.std.proofs.Common.{◌≡◌, drop}
use Rattle.smv_names.specs.Named.{unknown_members}
use Rattle.smv_names.proofs.names.unknown_members.Given as goal

abbrev pub invariant-loop-k : goal.invariant-loop-k
invariant-loop-k l = unknown_members l.scope.program l.here (drop l.k l.members) ≡ unknown_members l.scope.program l.at l.members
