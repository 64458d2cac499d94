-- What is left of the assignments gives the place.
use Rattle.std.proofs.Common.{◌≡◌, drop, map}
use Rattle.smv_flat.specs.Assignments.{place_of_assignment}
use Rattle.smv_flat.specs.Graph.{assigned_by}
use Rattle.smv_flat.proofs.cycles.place_of_assignment.Given as goal

abbrev pub invariant-loop-a : goal.invariant-loop-a
invariant-loop-a l =
    place_of_assignment l.time l.x (map (assigned_by l.typed.nodes) (drop l.a-index l.all)) ≡ place_of_assignment l.time l.x (map (assigned_by l.typed.nodes) l.all)
