-- The law of all programs.
use Rattle.smv_declared.proofs.Kept.{types_kept}
use Rattle.smv_declared.proofs.well_formed_types.types_are_types.Goals as goal

pub returns : goal.returns
returns c = types_kept
