use Rattle.hinted_log.proofs.Follow.{Follows-from_hints}
use Rattle.hinted_log.proofs.hinted_derivations.what_follows_by_hints_follows.Goals as goal

pub returns : goal.returns
returns c = Follows-from_hints
