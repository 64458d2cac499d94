use Rattle.std.proofs.Common.{◌+◌, sym, ap, ◌∙◌, arith}
use Rattle.ltl_table.specs.Columns.{at, stepped, forth}
use Rattle.ltl_table.proofs.Steps.{forth_zero, forth_step, grown_more}
use Rattle.ltl_table.proofs.loops.forward.Goals as goal

pub loop-i-init : goal.loop-i-init
loop-i-init c = (
  omega (arith, c.new-column.ensures.len),
  c.outset-value.ensures ∙ sym (forth_zero c.args.step c.args.left.now c.args.right.now),
  λ t h. absurd (omega arith),
)

pub loop-i-preserved : goal.loop-i-preserved
loop-i-preserved c =
    let here = c.stepped-value.ensures
    ∙ ap (stepped c.args.step (at c.args.left.now c.loop-i.i) (at c.args.right.now c.loop-i.i)) c.loop-i.invariant.1
    ∙ sym (forth_step c.args.step c.args.left.now c.args.right.now c.loop-i.i) in (
      omega (arith, c.in_ok-push.ensures.len),
      here,
      grown_more c.loop-i.column.items c.push.new.self.items (λ t. forth c.args.step c.args.left.now c.args.right.now (t + 1))
          c.loop-i.i c.stepped-value.result (omega arith) c.in_ok-push.ensures.items here c.loop-i.invariant.2,
    )
