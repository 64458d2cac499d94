-- One more line.
use Rattle.smv_cli.proofs.Listings.{slots_told}
use Rattle.smv_cli.proofs.listing.push_slots.Goals as goal

pub loop-number-preserved : goal.loop-number-preserved
loop-number-preserved c =
    slots_told c.args.typed.now.scope.program c.args.slots.now c.loop-number.number _ c.args.text.now.items c.loop-number.text.items c.push_slot.new.text.items
    c.loop-number-test.true c.loop-number.invariant c.in_ok-push_slot.ensures
