use Rattle.ltl_meaning.specs.Truth.{IsTrueAt}
use Rattle.ltl_meaning.specs.Lasso.{on}
use Rattle.ltl_meaning.specs.Equivalent.{negation, finally, until}
use Rattle.ltl_meaning.proofs.Unfold.{decide_at}
use Rattle.ltl_meaning.proofs.Duality.{not_globally, not_until, not_releases, not_historically, not_since, not_triggered}
use Rattle.ltl_meaning.proofs.temporal_equivalences.dualities.Goals as goal

pub returns-clause-not_globally : goal.returns-clause-not_globally
returns-clause-not_globally c = λ f w t.
    not_globally (IsTrueAt (on w) f) (decide_at w f) (decide_at w (finally (negation f))) t

pub returns-clause-not_until : goal.returns-clause-not_until
returns-clause-not_until c = λ f g w t.
    not_until (IsTrueAt (on w) f) (IsTrueAt (on w) g) (decide_at w f) (decide_at w g) t

pub returns-clause-not_releases : goal.returns-clause-not_releases
returns-clause-not_releases c = λ f g w t.
    not_releases (IsTrueAt (on w) f) (IsTrueAt (on w) g) (decide_at w f) (decide_at w g)
    (decide_at w (until (negation f) (negation g))) t

pub returns-clause-not_historically : goal.returns-clause-not_historically
returns-clause-not_historically c = λ f w t. not_historically (IsTrueAt (on w) f) (decide_at w f) t

pub returns-clause-not_since : goal.returns-clause-not_since
returns-clause-not_since c = λ f g w t.
    not_since (IsTrueAt (on w) f) (IsTrueAt (on w) g) (decide_at w f) (decide_at w g) t

pub returns-clause-not_triggered : goal.returns-clause-not_triggered
returns-clause-not_triggered c = λ f g w t.
    not_triggered (IsTrueAt (on w) f) (IsTrueAt (on w) g) (decide_at w f) (decide_at w g) t
