use Rattle.std.proofs.Common.{sym}
use Rattle.smv_resolve.specs.Finding.{AllKnown}
use Rattle.smv_resolve.proofs.memo.get.Goals as goal

pub returns-in-Some-clause-right : goal.returns-in-Some-clause-right
unfolding AllKnown
returns-in-Some-clause-right c = λ p known. known c.args.shared c.in-Some.found.now (sym c.in-Some.ensures.value)
