use Rattle.std.proofs.Common.{arith}
use Rattle.ltl_table.specs.Columns.{at, combine}
use Rattle.ltl_table.proofs.Steps.{grown_more}
use Rattle.ltl_table.proofs.pointwise.pointwise.Goals as goal

pub loop-i-preserved : goal.loop-i-preserved
loop-i-preserved c = (
  omega (arith, c.in_ok-push.ensures.len, c.loop-i.invariant.0),
  grown_more c.loop-i.column.items c.push.new.self.items (λ t. combine c.args.connective (at c.args.left.now t) (at c.args.right.now t)) c.loop-i.i c.combine-value.result
      (omega arith) c.in_ok-push.ensures.items c.combine-value.ensures c.loop-i.invariant.1,
)
