-- The lines of the slots so far are there.
use Rattle.std.proofs.Common.{◌≡◌, ◌++◌, take}
use Rattle.smv_cli.specs.Listing.{slots_text}
use Rattle.smv_cli.proofs.listing.push_slots.Given as goal

abbrev pub invariant-loop-number : goal.invariant-loop-number
invariant-loop-number l = l.text.items ≡ l.initial.text.items ++ slots_text l.typed.scope.program 0 (take l.number l.slots)
