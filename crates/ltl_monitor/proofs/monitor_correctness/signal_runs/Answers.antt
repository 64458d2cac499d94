use Rattle.ltl_monitor.proofs.SignalRuns.{exact}
use Rattle.ltl_monitor.proofs.monitor_correctness.signal_runs.Goals as goal

pub returns : goal.returns
returns c = λ sys m counted f atoms k n ism isc own gives. exact sys m counted f atoms k ism isc own gives n
