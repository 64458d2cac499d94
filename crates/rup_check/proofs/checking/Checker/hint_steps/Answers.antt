use Rattle.std.proofs.Common.{◌≡◌, ◌∙◌, ℕ, length, ap, subst}
use Rattle.hinted_log.specs.Hints.{IsHinted}
use Rattle.rup_check.proofs.Keeping.{steps_found}
use Rattle.rup_check.proofs.checking.Checker.hint_steps.Goals as goal
use Rattle.rup_check.proofs.checking.Checker.hint_steps.Goals.{in-Found, in-No}

pub returns-clause-says : goal.returns-clause-says
returns-clause-says c =
    elim c.match-branch-2.branch [
      | in-Found w ↦
          let says = rw w.in-Found.is at c.in_ok-hinted.ensures in
          let P : ℕ → Type 0 = λ n. IsHinted n c.args.clauses.now w.in-Found.hinted in
          let e : length c.deref_mut.result.now ≡ c.args.self.now = ap length c.deref_mut.ensures.value ∙ c.self.view_is in
          rw w.result-is (subst P e ((steps_found _ _ _ _ says).0))
      | in-No w ↦ rw w.result-is tt
    ]

pub returns-clause-covers : goal.returns-clause-covers
returns-clause-covers c =
    elim c.match-branch-2.branch [
      | in-Found w ↦
          let says = rw w.in-Found.is at c.in_ok-hinted.ensures in
          rw w.result-is ((steps_found _ _ _ _ says).1)
      | in-No w ↦ rw w.result-is tt
    ]
