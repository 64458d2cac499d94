-- The items so far that are no specifications.
use Rattle.std.proofs.Common.{◌≡◌, not, take}
use Rattle.std.specs.List.{filter}
use Rattle.smv_resolve.specs.declared.item.Item.{Item}
use Rattle.smv_meaning.specs.Runs.{is_claim}
use Rattle.bit_faults.proofs.judged.without_claims.Given as goal

abbrev pub invariant-loop-item : goal.invariant-loop-item
invariant-loop-item l = l.made ≡ filter (λ (x : Item). not (is_claim x.kind)) (take l.item-index l.items)
