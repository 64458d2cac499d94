use Rattle.std.proofs.Common.{arith}
use Rattle.lasso_search.proofs.OwnRows.{own_more}
use Rattle.lasso_search.proofs.lasso.own_rows.Goals as goal

pub loop-row-preserved : goal.loop-row-preserved
loop-row-preserved c = (
  omega (arith, c.in_ok-push.ensures.len, c.loop-row.invariant.0),
  λ f atoms ism.
      own_more c.args.system.now c.args.monitored.now.system c.args.rows.now c.loop-row.all.items c.push.new.self.items c.loop-row.row-index c.row-item.result c.in_ok-own_row.field-0
      c.loop-row.invariant.0 c.loop-row-test.true c.row-item.is c.in_ok-push.ensures.items (c.in_ok-own_row.ensures.step f atoms ism) (c.loop-row.invariant.1 f atoms ism),
)

pub returns-clause-each : goal.returns-clause-each
returns-clause-each c = λ f atoms ism i lt. c.loop-row.invariant.1 f atoms ism i (omega (arith, lt, c.loop-row-test.false))
