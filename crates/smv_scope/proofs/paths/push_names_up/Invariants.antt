-- The names so far come behind the path of the instance that is reached.
use Rattle.std.proofs.Common.{◌≡◌, ◌-◌, length, reverse}
use Rattle.std.specs.List.{fold}
use Rattle.smv_scope.specs.Instances.{instances_of}
use Rattle.smv_scope.specs.Paths.{joined, path_of, path_within}
use Rattle.smv_scope.proofs.Pathways.{lent_names}
use Rattle.smv_scope.proofs.paths.push_names_up.Given as goal

abbrev pub invariant-loop-level : goal.invariant-loop-level
invariant-loop-level l =
    fold joined (path_within l.scope.program (length (instances_of l.scope.program) - l.level) l.here) (reverse (lent_names l.names.items))
    ≡ fold joined (path_of l.scope.program l.at) (reverse (lent_names l.initial.names.items))
