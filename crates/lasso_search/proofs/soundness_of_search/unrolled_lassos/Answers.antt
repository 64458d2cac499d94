use Rattle.lasso_search.proofs.Answers.{clauses_to, clauses_from, can_close, has_lasso}
use Rattle.lasso_search.proofs.soundness_of_search.unrolled_lassos.Goals as goal

pub returns-clause-clauses : goal.returns-clause-clauses
returns-clause-clauses c = λ m steps a. (clauses_to m steps a, clauses_from m steps a)

pub returns-clause-lengths : goal.returns-clause-lengths
returns-clause-lengths c = λ m steps n keeps enough. (
  has_lasso m steps n keeps enough,
  λ h. can_close m steps n keeps enough h.0 h.1 h.2 h.3,
)
