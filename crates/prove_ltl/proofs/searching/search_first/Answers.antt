use Rattle.std.proofs.Common.{ℕ, Bool, List, [], refl, sym, subst}
use Rattle.lasso_search.specs.declared.searched.Searched.TheVariants.{Found, None, Spent}
use Rattle.prove_run.specs.declared.answers.Work.{Work}
use Rattle.prove_ltl.specs.declared.answers.LtlAnswer.TheVariants.{False, Unknown}
use Rattle.prove_ltl.specs.declared.answers.LtlCause.{LtlCause}
use Rattle.prove_ltl.specs.LtlAnswers.{IsLtlDone}
use Rattle.prove_ltl.proofs.Beginning.{log, found_done, search_spent, none_climbing}
use Rattle.prove_ltl.proofs.searching.search_first.Goals as goal

pub returns-in_ok-lasso-in-Found-clause-begins : goal.returns-in_ok-lasso-in-Found-clause-begins
returns-in_ok-lasso-in-Found-clause-begins g c = λ whole f atoms ism.
    let sys = c.args.system.now in
    let effort = c.args.effort.now in
    let m = c.args.monitored.now.system in
    let tickets : List ℕ = g.Q.Purse.tickets c.search_all.new.purse in
    let over : Bool = g.Q.Purse.spent c.search_all.new.purse in
    let r = c.in-Found.lasso in
    let own = c.in_ok-lasso-in-Found.lasso in
    let says = rw c.in-Found.is at c.in_ok-lasso.ensures.says in
    let violating = c.in_ok-lasso-in-Found.ensures f atoms says.finds.0 ism says.finds.1 in
    subst (λ (w : List Work). IsLtlDone sys f atoms effort w (False own)) (sym c.new.ensures.items)
    (found_done sys f atoms effort m ism c.law-2.ensures.gives tickets over (Found r) says own violating)

pub returns-in-Spent-clause-begins : goal.returns-in-Spent-clause-begins
returns-in-Spent-clause-begins g c = λ whole f atoms ism.
    let sys = c.args.system.now in
    let effort = c.args.effort.now in
    let m = c.args.monitored.now.system in
    let tickets : List ℕ = g.Q.Purse.tickets c.search_all.new.purse in
    let over : Bool = g.Q.Purse.spent c.search_all.new.purse in
    let says = rw c.in-Spent.is at c.in_ok-lasso.ensures.says in
    subst (λ (w : List Work). IsLtlDone sys f atoms effort w (Unknown c.spent_by.result)) (sym c.new-in-Spent.ensures.items)
    (subst (λ (z : LtlCause). IsLtlDone sys f atoms effort [] (Unknown z)) (sym c.spent_by.ensures)
    (search_spent sys f atoms effort m ism c.law-2.ensures.gives tickets over (Spent c.in-Spent.drawn c.in-Spent.budget) says says.finds.0 (whole refl says.finds.1)))

pub returns-in-None-clause-begins : goal.returns-in-None-clause-begins
returns-in-None-clause-begins g c =
    let sys = c.args.system.now in
    let effort = c.args.effort.now in
    let m = c.args.monitored.now.system in
    let tickets : List ℕ = g.Q.Purse.tickets c.search_all.new.purse in
    let over : Bool = g.Q.Purse.spent c.search_all.new.purse in
    let says = rw c.in-None.is at c.in_ok-lasso.ensures.says in (
      says.finds,
      λ f atoms ism. (
        log sys f atoms effort m ism c.law-2.ensures.gives tickets over None says,
        none_climbing sys f atoms effort m ism c.law-2.ensures.gives tickets over None says c.law.ensures.gives,
      ),
    )
