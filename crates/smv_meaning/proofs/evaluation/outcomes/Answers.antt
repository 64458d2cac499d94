-- First where there is no state, then in the next state, then here.
use Rattle.std.proofs.Common.{◌∙◌, []}
use Rattle.smv_meaning.proofs.evaluation.outcomes.Goals as goal

pub returns : goal.returns
returns c =
    c.in_ok-here.ensures c.args.next.now
    (c.as_slice-2.ensures.value ∙ c.in_ok-later.ensures [] (c.as_slice.ensures.value ∙ c.in_ok-nowhere.ensures))
