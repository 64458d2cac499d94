use Rattle.std.proofs.Common.{drop}
use Rattle.std.specs.List.{flat_map}
use Rattle.smv_resolve.specs.Items.{items_in}
use Rattle.smv_resolve.specs.Finding.{AllKnown}
use Rattle.smv_resolve.specs.Listing.{AllStand}
use Rattle.smv_resolve.proofs.Adding.{Rests}
use Rattle.smv_resolve.proofs.listing.add_sections.Given as goal

abbrev pub invariant-loop-section : goal.invariant-loop-section
invariant-loop-section l = record {
  known : AllKnown l.scope.program l.memo;
  stand : AllStand l.memo.nodes l.items;
  rests : Rests l.initial.memo.nodes l.memo.nodes l.initial.items l.items (flat_map (items_in l.scope.program l.at) l.sections) (flat_map (items_in l.scope.program l.at) (drop l.section-index l.sections));
}
