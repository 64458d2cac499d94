use Rattle.std.proofs.Common.{arith}
use Rattle.smv_scope.proofs.Preorder.{turn, room, too_many, at_first, at_last}
use Rattle.smv_scope.proofs.instances.subtree.Goals as goal

pub loop-root-init : goal.loop-root-init
loop-root-init c =
    let first = at_first c.args.program.now c.args.top c.new-tree.result c.new-roots.result c.push.new.self c.new-tree.ensures c.new-roots.ensures c.in_ok-push.ensures.ok in
    record { whole = first.0; few = first.1 }

pub overflow_sub-len : goal.overflow_sub-len
overflow_sub-len c =
    let r = room c.loop-root.tree c.push-in-Some.new.self c.in-Some.root.instance c.loop-root.roots c.pop.new.self c.in-Some.root c.in_ok-push-2.ensures.ok c.in-Some.ensures c.loop-root.invariant.few in
    omega (arith, r.1, c.len.ensures)

pub returns-then-len-clause-err : goal.returns-then-len-clause-err
returns-then-len-clause-err c = λ same.
    let r = room c.loop-root.tree c.push-in-Some.new.self c.in-Some.root.instance c.loop-root.roots c.pop.new.self c.in-Some.root c.in_ok-push-2.ensures.ok c.in-Some.ensures c.loop-root.invariant.few in
    too_many c.args.program.now c.push-in-Some.new.self c.push_children.new.roots _
    (turn c.args.program.now c.loop-root.tree c.push-in-Some.new.self c.len-at.result c.loop-root.roots c.pop.new.self c.push_children.new.roots c.in-Some.root _ c.in-Some.ensures c.len-at.ensures c.in_ok-push-2.ensures.ok c.in_ok-push_children.ensures.leaf c.in_ok-push_children.ensures.branch c.loop-root.invariant.whole)
    (omega (arith, r.1, c.if-len.true, c.len.ensures, c.len-in-Some.ensures))

pub loop-root-smaller : goal.loop-root-smaller
loop-root-smaller c =
    let r = room c.loop-root.tree c.push-in-Some.new.self c.in-Some.root.instance c.loop-root.roots c.pop.new.self c.in-Some.root c.in_ok-push-2.ensures.ok c.in-Some.ensures c.loop-root.invariant.few in
    omega (arith, r.0, r.1)

pub loop-root-preserved : goal.loop-root-preserved
loop-root-preserved c =
    let r = room c.loop-root.tree c.push-in-Some.new.self c.in-Some.root.instance c.loop-root.roots c.pop.new.self c.in-Some.root c.in_ok-push-2.ensures.ok c.in-Some.ensures c.loop-root.invariant.few in
    record {
      whole = turn c.args.program.now c.loop-root.tree c.push-in-Some.new.self c.len-at.result c.loop-root.roots c.pop.new.self c.push_children.new.roots c.in-Some.root _ c.in-Some.ensures c.len-at.ensures c.in_ok-push-2.ensures.ok c.in_ok-push_children.ensures.leaf c.in_ok-push_children.ensures.branch c.loop-root.invariant.whole;
      few = omega (arith, r.1, c.if-len.false, c.len.ensures, c.len-in-Some.ensures);
    }

pub returns-clause-ok : goal.returns-clause-ok
returns-clause-ok c =
    (at_last c.args.program.now c.loop-root.tree _ c.loop-root.roots c.loop-root.invariant.whole c.in_default.ensures.0, omega (arith, c.loop-root.invariant.few))
