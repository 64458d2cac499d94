use Rattle.smv_resolve.specs.Finding.{AllKnown}
use Rattle.smv_resolve.proofs.memo.begin.Goals as goal

pub returns-clause-known : goal.returns-clause-known
unfolding AllKnown
returns-clause-known c = λ p known. known

pub returns-in_err-insert-clause-known : goal.returns-in_err-insert-clause-known
unfolding AllKnown
returns-in_err-insert-clause-known c = λ p known. known
