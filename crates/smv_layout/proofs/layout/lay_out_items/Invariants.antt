-- The items so far.
use Rattle.std.proofs.Common.{◌≡◌, map, take}
use Rattle.smv_resolve.specs.Items.{item_by}
use Rattle.smv_layout.specs.Layout.{laid_item}
use Rattle.smv_layout.proofs.layout.lay_out_items.Given as goal

abbrev pub invariant-loop-item : goal.invariant-loop-item
invariant-loop-item l = map (item_by l.to.nodes) l.items ≡ map (laid_item l.variables) (map (item_by l.resolution.nodes) (take l.item-index l.resolution.items))
