use Rattle.smv_scope.proofs.Listing.{lists_next, lists_end}
use Rattle.smv_scope.proofs.instantiations.push_lists.Goals as goal

pub loop-module-preserved : goal.loop-module-preserved
loop-module-preserved c =
    let next = lists_next c.args.program.now c.as_slice-module-items.result.now c.loop-module.module-index c.module-item.result c.as_slice.result.now c.in_ok-list.list c.loop-module.lists c.push.new.self
    c.as_slice-module-items.ensures c.loop-module-test.true c.module-item.is c.as_slice.ensures c.loop-module.invariant.counted c.in_ok-push.ensures.ok c.in_ok-list.ensures c.loop-module.invariant.right in
    record { counted = next.0; right = next.1 }

pub returns : goal.returns
returns c =
    lists_end c.args.program.now c.as_slice-module-items.result.now c.loop-module.module-index c.loop-module.lists
    c.as_slice-module-items.ensures c.loop-module-test.false c.loop-module.invariant.counted c.loop-module.invariant.right
