use Rattle.clause_core.proofs.Sound.{Implies-from_follows}
use Rattle.clause_core.proofs.soundness_of_derivations.what_follows_is_implied.Goals as goal

pub returns : goal.returns
returns c = Implies-from_follows
