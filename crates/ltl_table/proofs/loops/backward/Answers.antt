use Rattle.std.proofs.Common.{◌-◌, length, sym, ap, ◌∙◌, arith}
use Rattle.ltl_table.specs.Columns.{back, looped}
use Rattle.ltl_table.proofs.Steps.{back_end, back_before, filled_more}
use Rattle.ltl_table.proofs.loops.backward.Goals as goal

pub loop-i-init : goal.loop-i-init
loop-i-init c =
    let n = length c.args.right.now in (
      omega (arith, c.in_ok-column.ensures.len),
      omega arith,
      c.value_at-value.ensures
          ∙ ap (λ z. back c.args.step c.args.left.now c.args.right.now c.args.start (n - c.args.start) z) c.outset.ensures
          ∙ sym (back_end c.args.step c.args.left.now c.args.right.now n _),
      λ t lo hi. absurd (omega arith),
    )

pub loop-i-preserved : goal.loop-i-preserved
loop-i-preserved c =
    let here = c.stepped-value.ensures
    ∙ back_before c.args.step c.args.left.now c.args.right.now c.loop-i.i (length c.args.right.now) _ c.loop-i.value
    (omega arith) (omega arith) c.loop-i.invariant.2 in (
      omega arith,
      omega arith,
      here,
      filled_more c.loop-i.column.items (looped c.args.step c.args.left.now c.args.right.now c.args.start)
          c.loop-i.i (length c.args.right.now) c.stepped-value.result (omega arith) (omega arith) (omega arith) here c.loop-i.invariant.3,
    )
