use Rattle.ltl_lassos.proofs.Stretched.{none_within}
use Rattle.ltl_lassos.proofs.absence_of_violations.short_lassos.Goals as goal

pub returns : goal.returns
returns c = λ sys m f atoms bound ism own gives none. none_within sys m f atoms ism own gives bound none
