-- The names that are left come behind the path so far.
use Rattle.std.proofs.Common.{◌≡◌, length, reverse, string_bytes}
use Rattle.std.specs.List.{fold}
use Rattle.smv_scope.specs.Paths.{joined}
use Rattle.smv_scope.proofs.Pathways.{lent_names}
use Rattle.smv_scope.proofs.paths.push_names.Given as goal

abbrev pub invariant-loop-name : goal.invariant-loop-name
invariant-loop-name l =
    fold joined (string_bytes l.path) (reverse (lent_names l.names.items))
    ≡ fold joined (string_bytes l.initial.path) (reverse (lent_names l.initial.names.items))

abbrev pub decreases-loop-name : goal.decreases-loop-name
decreases-loop-name l = length l.names.items
