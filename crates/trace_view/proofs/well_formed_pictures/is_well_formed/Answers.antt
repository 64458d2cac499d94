-- Each element is closed.
use Rattle.trace_view.proofs.OfPictures.{well_formed}
use Rattle.trace_view.proofs.well_formed_pictures.is_well_formed.Goals as goal

pub returns : goal.returns
returns c = well_formed
