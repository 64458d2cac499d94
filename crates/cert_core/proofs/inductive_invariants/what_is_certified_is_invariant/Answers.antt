use Rattle.cert_core.proofs.Shown.{Invariant-from_certifies}
use Rattle.cert_core.proofs.inductive_invariants.what_is_certified_is_invariant.Goals as goal

pub returns : goal.returns
returns c = Invariant-from_certifies
