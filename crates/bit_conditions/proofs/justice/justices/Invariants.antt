-- The items of JUSTICE so far.
use Rattle.std.proofs.Common.{◌≡◌, take}
use Rattle.std.specs.List.{filter}
use Rattle.smv_resolve.specs.declared.item.Item.{Item}
use Rattle.bit_conditions.specs.Asked.{is_justice}
use Rattle.bit_conditions.proofs.justice.justices.Given as goal

abbrev pub invariant-loop-item : goal.invariant-loop-item
invariant-loop-item l = l.justices.items ≡ filter (λ (x : Item). is_justice x.kind) (take l.item-index l.items)
