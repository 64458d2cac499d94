use Rattle.std.proofs.Common.{drop, map}
use Rattle.smv_resolve.specs.Items.{resolved_assignment}
use Rattle.smv_resolve.specs.Finding.{AllKnown}
use Rattle.smv_resolve.specs.Listing.{AllStand}
use Rattle.smv_resolve.proofs.Adding.{Rests}
use Rattle.smv_resolve.proofs.listing.add_assignments.Given as goal

abbrev pub invariant-loop-assignment : goal.invariant-loop-assignment
invariant-loop-assignment l = record {
  known : AllKnown l.scope.program l.memo;
  stand : AllStand l.memo.nodes l.items;
  rests : Rests l.initial.memo.nodes l.memo.nodes l.initial.items l.items (map (resolved_assignment l.scope.program l.at) l.assignments) (map (resolved_assignment l.scope.program l.at) (drop l.assignment-index l.assignments));
}
