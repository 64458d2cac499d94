use Rattle.ltl_meaning.proofs.Unfold.{decide_at}
use Rattle.ltl_meaning.proofs.temporal_equivalences.excluded_middle.Goals as goal

pub returns : goal.returns
returns c = λ f w t. decide_at w f t
