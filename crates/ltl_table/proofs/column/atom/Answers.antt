use Rattle.std.proofs.Common.{arith}
use Rattle.ltl_meaning.specs.Lasso.{on}
use Rattle.ltl_table.proofs.Steps.{told_more}
use Rattle.ltl_table.proofs.column.atom.Goals as goal

pub loop-i-preserved : goal.loop-i-preserved
loop-i-preserved c = (
  omega (arith, c.in_ok-push.ensures.len, c.loop-i.invariant.0),
  told_more c.loop-i.column.items c.push.new.self.items (on c.args.word.now c.args.number) c.loop-i.i c.holds-value.result
      (omega arith) c.in_ok-push.ensures.items c.holds-value.ensures c.loop-i.invariant.1,
)
