use Rattle.smv_resolve.specs.Finding.{AllKnown}
use Rattle.smv_resolve.proofs.Knowing.{none_known}
use Rattle.smv_resolve.proofs.memo.empty_memo.Goals as goal

pub returns-clause-known : goal.returns-clause-known
unfolding AllKnown
returns-clause-known c = λ p x found is. none_known p c.new.result x found c.new-2.result.entries c.new-2.ensures.empty is
