use Rattle.smv_scope.proofs.Tables.{tables_next, tables_end}
use Rattle.smv_scope.proofs.symbols.push_tables.Goals as goal

pub loop-module-preserved : goal.loop-module-preserved
loop-module-preserved c =
    let x = c.module-item.result in
    let next = tables_next c.args.program.now c.as_slice-module-items.result.now c.loop-module.module-index x c.as_slice-parameters.result.now c.as_slice.result.now c.in_ok-table.table c.loop-module.tables c.push.new.self
    c.as_slice-module-items.ensures c.loop-module-test.true c.module-item.is c.as_slice-parameters.ensures c.as_slice.ensures c.loop-module.invariant.counted c.in_ok-push.ensures.ok c.in_ok-table.ensures c.loop-module.invariant.right in
    record { counted = next.0; right = next.1 }

pub returns : goal.returns
returns c =
    tables_end c.args.program.now c.as_slice-module-items.result.now c.loop-module.module-index c.loop-module.tables
    c.as_slice-module-items.ensures c.loop-module-test.false c.loop-module.invariant.counted c.loop-module.invariant.right
