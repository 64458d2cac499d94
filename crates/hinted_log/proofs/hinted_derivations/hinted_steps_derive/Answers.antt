use Rattle.hinted_log.proofs.Follow.{Derives-from_hinted}
use Rattle.hinted_log.proofs.hinted_derivations.hinted_steps_derive.Goals as goal

pub returns : goal.returns
returns c = Derives-from_hinted
