-- The members that are left lead from here to where all lead.
use Rattle.std.proofs.Common.{◌≡◌, drop}
use Rattle.smv_scope.specs.Lookup.{members_target}
use Rattle.smv_scope.proofs.lookup.members_target.Given as goal

abbrev pub invariant-loop-k : goal.invariant-loop-k
invariant-loop-k l = members_target l.scope.program l.here (drop l.k l.members) ≡ members_target l.scope.program l.instance l.members
