use Rattle.std.proofs.Common.{reverse, arith}
use Rattle.smv_scope.proofs.Listing.{root_next}
use Rattle.smv_scope.proofs.instances.push_roots.Goals as goal

pub loop-k-preserved : goal.loop-k-preserved
loop-k-preserved c =
    let within = c.loop-k.auto.k in
    root_next c.args.list.now c.loop-k.k c.args.at c.args.depth _ c.instance_by.result c.loop-k.roots c.push.new.self (reverse c.args.roots.now) (omega (arith, c.loop-k-test.true)) (omega arith)
    c.instance_by.ensures c.in_ok-push.ensures.ok c.loop-k.invariant
