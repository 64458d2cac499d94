use Rattle.std.proofs.Common.{◌≡◌, true}
use Rattle.ltl_meaning.proofs.Unfold.{unfolds, unfolded_height}
use Rattle.ltl_meaning.proofs.temporal_equivalences.unfoldings.Goals as goal

pub returns-clause-same : goal.returns-clause-same
returns-clause-same c = λ x f t. unfolds (λ a u. x u a ≡ true) f t

pub returns-clause-depth : goal.returns-clause-depth
returns-clause-depth c = unfolded_height
