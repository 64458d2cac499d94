use Rattle.ltl_monitor.proofs.BitLassos.{exact}
use Rattle.ltl_monitor.proofs.monitor_correctness.monitored_lassos.Goals as goal

pub returns : goal.returns
returns c = λ sys m f atoms ism gives xs values n l extend lasso. exact sys m f atoms ism gives xs values n l extend lasso
