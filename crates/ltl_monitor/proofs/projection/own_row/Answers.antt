use Rattle.std.proofs.Common.{arith}
use Rattle.ltl_monitor.proofs.OwnRows.{own_row_read}
use Rattle.ltl_monitor.proofs.projection.own_row.Goals as goal

pub returns-clause-step : goal.returns-clause-step
returns-clause-step c = λ f atoms ism.
    own_row_read c.args.system.now c.args.monitored.now.system f atoms c.args.row.now c.from_vec.result c.in_ok-values.values.items
    (record { given = c.state_bits-given.result; nodes = c.saturating_sub.result; inner = 0 }) c.all_bits.result c.law.ensures ism
    c.state_bits-given.ensures.value (omega (arith, c.saturating_sub.ensures, c.state_bits.ensures.value, c.state_bits-given.ensures.value))
    c.all_bits.ensures.value c.from_vec.ensures c.in_ok-values.ensures.full c.in_ok-values.ensures.each
