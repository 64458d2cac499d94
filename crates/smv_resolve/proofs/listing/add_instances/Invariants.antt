use Rattle.std.proofs.Common.{drop}
use Rattle.smv_resolve.specs.Items.{items_below}
use Rattle.smv_resolve.specs.Finding.{AllKnown}
use Rattle.smv_resolve.specs.Listing.{AllStand}
use Rattle.smv_resolve.proofs.Adding.{Rests}
use Rattle.smv_resolve.proofs.listing.add_instances.Given as goal

abbrev pub invariant-loop-at : goal.invariant-loop-at
invariant-loop-at l = record {
  known : AllKnown l.scope.program l.memo;
  stand : AllStand l.memo.nodes l.items;
  rests : Rests l.initial.memo.nodes l.memo.nodes l.initial.items l.items (items_below l.scope.program 0 l.tree) (items_below l.scope.program l.at (drop l.at l.tree));
}
