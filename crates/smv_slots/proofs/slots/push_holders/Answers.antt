use Rattle.std.proofs.Common.{◌++◌, refl, ap, ◌∙◌}
use Rattle.smv_slots.specs.Slots.{holders_from}
use Rattle.smv_slots.proofs.Holding.{lent, holders_more, holders_done}
use Rattle.smv_slots.proofs.slots.push_holders.Goals as goal

pub loop-v-init : goal.loop-v-init
loop-v-init c = refl

pub loop-v-preserved : goal.loop-v-preserved
loop-v-preserved c =
    holders_more c.args.at c.loop-v.holders c.push_holder.new.holders c.deref-x-items.result.now c.loop-v.v c.x-item.result c.loop-v-test.true c.x-item.is c.in_ok-push_holder.ensures
    ∙ c.loop-v.invariant

pub returns : goal.returns
returns c =
    holders_done c.args.at c.loop-v.holders c.deref-x-items.result.now c.loop-v.v c.loop-v-test.false ∙ c.loop-v.invariant
    ∙ ap (λ xs. c.args.holders.now ++ holders_from c.args.at 0 xs) (ap lent c.deref-x-items.ensures.value ∙ c.in_ok-variables.ensures)
