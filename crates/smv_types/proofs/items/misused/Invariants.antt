-- What is left of the items gives the refusal of all.
use Rattle.std.proofs.Common.{◌≡◌, drop, map}
use Rattle.smv_resolve.specs.Items.{item_by}
use Rattle.smv_types.specs.Kinds.{item_refusal}
use Rattle.smv_verdicts.specs.Verdicts.{first_of}
use Rattle.smv_types.proofs.items.misused.Given as goal

abbrev pub invariant-loop-item : goal.invariant-loop-item
invariant-loop-item l =
    first_of (item_refusal l.slots l.types) (map (item_by l.nodes) (drop l.item-index l.items)) ≡ first_of (item_refusal l.slots l.types) (map (item_by l.nodes) l.items)
