use Rattle.ltl_meaning.specs.Ltl.{past_height}
use Rattle.ltl_monitor.proofs.Lassos.{to_monitor, from_monitor}
use Rattle.ltl_monitor.proofs.Signals.{none_violates}
use Rattle.ltl_monitor.proofs.monitor_correctness.monitors.Goals as goal

pub returns-clause-exact : goal.returns-clause-exact
returns-clause-exact c = λ f justice x n l inside loops.
    (to_monitor justice f x n l inside loops, from_monitor justice f x n l inside loops (past_height f))

pub returns-clause-signals : goal.returns-clause-signals
returns-clause-signals c = λ f justice x n l k inside loops none.
    none_violates justice f x n l inside loops k none
