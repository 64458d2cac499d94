use Rattle.ltl_monitor.proofs.CountedLassos.{bad_reached}
use Rattle.ltl_monitor.proofs.monitor_correctness.counted_lassos.Goals as goal

pub returns : goal.returns
returns c = λ m counted k isc gives none xs n l lasso fair.
    let b = bad_reached m counted k isc gives xs n l lasso fair in none b.0 b.1 b.2 b.3
