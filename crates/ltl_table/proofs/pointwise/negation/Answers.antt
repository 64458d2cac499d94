use Rattle.std.proofs.Common.{not, refl, arith}
use Rattle.ltl_table.specs.Columns.{at}
use Rattle.ltl_table.proofs.Steps.{grown_more}
use Rattle.ltl_table.proofs.pointwise.negation.Goals as goal

pub loop-i-preserved : goal.loop-i-preserved
loop-i-preserved c = (
  omega (arith, c.in_ok-push.ensures.len, c.loop-i.invariant.0),
  grown_more c.loop-i.column.items c.push.new.self.items (λ t. not (at c.args.operand.now t)) c.loop-i.i (not (at c.args.operand.now c.loop-i.i))
      (omega arith) c.in_ok-push.ensures.items refl c.loop-i.invariant.1,
)
