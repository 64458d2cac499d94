use Rattle.ltl_meaning.specs.Truth.{IsTrueAt}
use Rattle.ltl_meaning.specs.Lasso.{on}
use Rattle.ltl_meaning.proofs.Unfold.{decide_at}
use Rattle.ltl_meaning.proofs.Decide.{releases_unfolds_decided, triggered_unfolds_decided}
use Rattle.ltl_meaning.proofs.temporal_equivalences.expansions.Goals as goal

pub returns-clause-releases_unfolds : goal.returns-clause-releases_unfolds
returns-clause-releases_unfolds c = λ f g w t.
    releases_unfolds_decided (IsTrueAt (on w) f) (IsTrueAt (on w) g) (decide_at w f) t

pub returns-clause-triggered_unfolds : goal.returns-clause-triggered_unfolds
returns-clause-triggered_unfolds c = λ f g w t.
    triggered_unfolds_decided (IsTrueAt (on w) f) (IsTrueAt (on w) g) (decide_at w f) t
