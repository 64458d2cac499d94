-- What draws keep, from one state to itself and over two runs.
use Rattle.std.proofs.Common.{refl, ◌∙◌}
use Rattle.frame_worker.specs.declared.stoppable.Stoppable.{Stoppable}
use Rattle.frame_worker.specs.Stopping.{KeepsStoppable}

pub KeepsStoppable-refl : (x : Stoppable) → KeepsStoppable x x
KeepsStoppable-refl x = record { purse = refl; shares = refl; lengths = refl; no_more = refl; raised = refl }

pub KeepsStoppable-trans : (x y z : Stoppable) → KeepsStoppable x y → KeepsStoppable y z → KeepsStoppable x z
KeepsStoppable-trans x y z first second =
    record {
      purse = second.purse ∙ first.purse;
      shares = second.shares ∙ first.shares;
      lengths = second.lengths ∙ first.lengths;
      no_more = second.no_more ∙ first.no_more;
      raised = second.raised ∙ first.raised;
    }
