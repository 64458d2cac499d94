use Rattle.std.proofs.Common.{length, sym, ◌∙◌, arith}
use Rattle.ltl_table.proofs.Steps.{back_end, back_before}
use Rattle.ltl_table.proofs.loops.value_at.Goals as goal

pub loop-i-init : goal.loop-i-init
loop-i-init c =
    (c.requires.within, omega arith, sym (back_end c.args.step c.args.left.now c.args.right.now (length c.args.right.now) c.args.end))

pub loop-i-preserved : goal.loop-i-preserved
loop-i-preserved c = (
  omega arith,
  omega arith,
  c.stepped-value.ensures
      ∙ back_before c.args.step c.args.left.now c.args.right.now c.loop-i.i (length c.args.right.now) c.args.end c.loop-i.value
      (omega arith) (omega arith) c.loop-i.invariant.2,
)
