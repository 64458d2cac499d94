use Rattle.cert_core.proofs.Shown.{never_bad}
use Rattle.cert_core.proofs.inductive_invariants.no_run_reaches_bad.Goals as goal

pub returns : goal.returns
returns c = never_bad
