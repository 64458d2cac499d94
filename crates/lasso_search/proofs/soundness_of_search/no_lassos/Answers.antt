use Rattle.lasso_search.proofs.Stretched.{none_violates}
use Rattle.lasso_search.proofs.soundness_of_search.no_lassos.Goals as goal

pub returns : goal.returns
returns c = λ sys m f atoms ism gives xs values n l extend lasso none. none_violates sys m f atoms ism gives xs values n l extend lasso none
