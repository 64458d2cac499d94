-- The JUSTICE constraints so far.
use Rattle.std.proofs.Common.{◌≡◌, take}
use Rattle.std.specs.List.{filter}
use Rattle.smv_resolve.specs.declared.item.Item.{Item}
use Rattle.trace_replay.specs.Lassos.{is_justice}
use Rattle.trace_replay.proofs.lassos.justices.Given as goal

abbrev pub invariant-loop-item : goal.invariant-loop-item
invariant-loop-item l = l.justices.items ≡ filter (λ (x : Item). is_justice x.kind) (take l.item-index l.item-items)
