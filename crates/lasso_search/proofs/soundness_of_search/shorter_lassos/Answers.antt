use Rattle.lasso_search.proofs.Shorter.{none_shorter}
use Rattle.lasso_search.proofs.soundness_of_search.shorter_lassos.Goals as goal

pub returns : goal.returns
returns c = λ m k n le none. none_shorter m k n le none
