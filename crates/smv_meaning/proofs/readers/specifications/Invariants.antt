-- The specifications so far.
use Rattle.std.proofs.Common.{◌≡◌, take}
use Rattle.std.specs.List.{filter}
use Rattle.smv_resolve.specs.declared.item.Item.{Item}
use Rattle.smv_meaning.specs.Runs.{is_claim}
use Rattle.smv_meaning.proofs.readers.specifications.Given as goal

abbrev pub invariant-loop-item : goal.invariant-loop-item
invariant-loop-item l = l.specifications.items ≡ filter (λ (x : Item). is_claim x.kind) (take l.item-index l.item-items)
