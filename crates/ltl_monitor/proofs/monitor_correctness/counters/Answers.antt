use Rattle.std.proofs.Common.{arith}
use Rattle.ltl_monitor.proofs.SignalRuns.{counter_grows, counter_onto}
use Rattle.ltl_monitor.proofs.monitor_correctness.counters.Goals as goal

pub returns-clause-bits : goal.returns-clause-bits
returns-clause-bits c = λ m old new k is then. omega (arith, is.bits, then.bits)

pub returns-clause-cut : goal.returns-clause-cut
returns-clause-cut c = λ m old new k is then gives. counter_grows m old new k is then gives

pub returns-clause-onto : goal.returns-clause-onto
returns-clause-onto c = λ m old new k is then gives. counter_onto m old new k is then gives
