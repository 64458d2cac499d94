use Rattle.lasso_search.specs.Lassos.{state}
use Rattle.lasso_search.proofs.Stretched.{below_monitor, violates}
use Rattle.lasso_search.proofs.soundness_of_search.found_lassos.Goals as goal

pub returns : goal.returns
returns c = λ sys m f atoms ism gives n r found values extend. (
  below_monitor sys m f atoms ism gives (state r) values n r.start extend found.lasso,
  violates sys m f atoms ism gives (state r) values n r.start extend found.lasso found.fair,
)
