use Rattle.std.proofs.Common.{sym, ◌∙◌}
use Rattle.smv_scope.proofs.Following.{instance_within-step, instance_within-none}
use Rattle.smv_scope.proofs.lookup.+follow.Goals as goal

pub instance_within-returns-then-depth-eq0 : goal.instance_within-returns-then-depth-eq0
instance_within-returns-then-depth-eq0 t c = sym (instance_within-none c.args.scope.now.program c.args.depth c.args.instance c.args.e.now c.if-depth-eq0.true)

pub instance_within-returns : goal.instance_within-returns
instance_within-returns t c = c.instance_by_node.ensures ∙ sym (instance_within-step c.args.scope.now.program c.args.depth c.args.instance c.args.e.now c.if-depth-eq0.false)
