-- It is misplaced where none may stand, and breaks its own rule where one may.
use Rattle.std.proofs.Common.{◌≡◌, ◌∙◌, Bool, true, false, Some, refl}
use Rattle.smv_verdicts.specs.Verdicts.{or_else}
use Rattle.smv_types.specs.Judged.{as_refusal}
use Rattle.smv_types.specs.Kinds.{temporal_at}
use Rattle.smv_types.proofs.notes.temporal_here.Goals as goal

pub returns : goal.returns
returns c = λ o refusal is broken.
    let here : (set : Bool) → as_refusal (Some c.new.result) ≡ or_else (temporal_at c.args.place o) (refusal set) = λ set. rw (c.new.ensures, is) refl in
    record {
      step = c.everywhere.ensures.step ∙ here false;
      step_set = c.everywhere.ensures.step_set ∙ here true;
      name = c.everywhere.ensures.name ∙ here false;
      name_set = c.everywhere.ensures.name_set ∙ here true;
      state = c.everywhere.ensures.state ∙ here false;
      state_set = c.everywhere.ensures.state_set ∙ here true;
      path = broken;
    }
