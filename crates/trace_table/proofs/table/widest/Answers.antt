-- One text more.
use Rattle.std.proofs.Common.{◌≡◌, ◌∙◌, ◌+◌, [], length, drop, max, ap}
use Rattle.trace_table.specs.Table.{cell, widest}
use Rattle.trace_table.proofs.OfTable.{widest_more}
use Rattle.trace_table.proofs.table.widest.Goals as goal

pub loop-j-preserved : goal.loop-j-preserved
loop-j-preserved c =
    let rows = c.args.rows.now in
    let names = c.args.names.now in
    let i = c.args.i in
    let j = c.loop-j.j in
    let w : length c.as_str.result.now ≡ length (cell rows i j) = ap length (c.as_str.ensures.value ∙ c.in_ok-text.ensures) in
    ap (λ n. max n (widest rows i (j + 1) (drop (j + 1) names))) c.longer-most.ensures
    ∙ widest_more rows i j names (record { name = []; value = [] }) c.loop-j.most (length c.as_str.result.now) c.loop-j-test.true w
    ∙ c.loop-j.invariant
