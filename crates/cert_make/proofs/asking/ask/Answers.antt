use Rattle.cert_make.proofs.Refuting.{refuted_by_core}
use Rattle.cert_make.proofs.asking.ask.Goals as goal
use Rattle.cert_make.proofs.asking.ask.Goals.{in-Unsat, in-Spent}

pub returns-clause-asked : goal.returns-clause-asked
returns-clause-asked g c = elim c.match-branch-2.branch [
  | in-Unsat w ↦
      let says = rw w.in-Unsat.is at c.in_ok-solve.ensures.answer in
      rw w.result-is (refuted_by_core _ _ _ c.args.assumptions.now w.in-Unsat.core.items says.0 says.1)
  | in-Spent w ↦
      let says = rw w.in-Spent.is at c.in_ok-solve.ensures.answer in
      rw w.result-is (record { drawn_all = says.0; of_budget = says.1; over_now = says.2 })
]
