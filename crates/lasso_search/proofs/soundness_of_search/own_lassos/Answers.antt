use Rattle.lasso_search.proofs.OwnLassos.{own_is_lasso}
use Rattle.lasso_search.proofs.soundness_of_search.own_lassos.Goals as goal

pub returns : goal.returns
returns c = λ sys m f atoms ism own_gives gives n r own fair is. own_is_lasso sys m f atoms ism own_gives gives n r own fair is
