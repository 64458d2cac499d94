use Rattle.std.proofs.Common.{ℕ, ◌+◌, ◌∙◌, List, refl, subst, arith}
use Rattle.clause_core.specs.Systems.{TransitionSystem}
use Rattle.lasso_search.specs.Lassos.{IsFairLasso, HasNoFairLasso}
use Rattle.lasso_search.specs.Paying.{PaysOne}
use Rattle.prove_ltl.proofs.Longer.{all, pays_next, searched_next, searched_none, stands_next}
use Rattle.prove_ltl.proofs.searching.search_lengths.Goals as goal

pub lengths-init : goal.lengths-init
lengths-init g c =
    record {
      searched = searched_none c.args.solver.now.system c.args.first c.args.solver.now.known (g.Q.Purse.tickets c.args.purse.now);
      from = omega arith;
      system = refl;
      kept = g.met.Q.Purse.kept_refl c.args.purse.now;
      ready = c.requires.ready;
      budget = refl;
    }

pub returns-in-Found-clause-says : goal.returns-in-Found-clause-says
returns-in-Found-clause-says g c =
    let m = c.args.solver.now.system in
    let k : ℕ = c.lengths.k in
    let i = c.lengths.invariant in
    let mid = c.lengths.solver.known in
    let new = c.search.new.self.known in
    let x : List ℕ = g.Q.Purse.tickets c.lengths.purse in
    let y : List ℕ = g.Q.Purse.tickets c.search.new.purse in
    let one = subst (λ (z : TransitionSystem). PaysOne z (k + 1) mid new x y) i.system c.search.ensures.pays in
    let finds = rw c.in-Found.is at c.in_ok-search.ensures.found in
    let fair = subst (λ (z : TransitionSystem). IsFairLasso z (k + 1) c.in-Found.lasso) i.system finds in
    let before : List ℕ = g.Q.Purse.tickets c.args.purse.now in
    let old = c.args.solver.now.known in
    record {
      log = all m c.args.first k old mid new before x y i.searched i.from one;
      pays = pays_next m c.args.first k old mid new before x y i.searched i.from one c.args.last c.lengths-test.true;
      finds = (k + 1, fair);
    }

pub returns-in-Spent-clause-says : goal.returns-in-Spent-clause-says
returns-in-Spent-clause-says g c =
    let m = c.args.solver.now.system in
    let k : ℕ = c.lengths.k in
    let i = c.lengths.invariant in
    let mid = c.lengths.solver.known in
    let new = c.search.new.self.known in
    let x : List ℕ = g.Q.Purse.tickets c.lengths.purse in
    let y : List ℕ = g.Q.Purse.tickets c.search.new.purse in
    let one = subst (λ (z : TransitionSystem). PaysOne z (k + 1) mid new x y) i.system c.search.ensures.pays in
    let finds = rw c.in-Spent.is at c.in_ok-search.ensures.found in
    let before : List ℕ = g.Q.Purse.tickets c.args.purse.now in
    let old = c.args.solver.now.known in
    record {
      log = all m c.args.first k old mid new before x y i.searched i.from one;
      pays = pays_next m c.args.first k old mid new before x y i.searched i.from one c.args.last c.lengths-test.true;
      finds = (stands_next m c.args.first k old mid new before x y i.searched i.from one c.args.last c.lengths-test.true, finds.2);
    }

pub lengths-preserved : goal.lengths-preserved
lengths-preserved g c =
    let m = c.args.solver.now.system in
    let k : ℕ = c.lengths.k in
    let i = c.lengths.invariant in
    let mid = c.lengths.solver.known in
    let new = c.search.new.self.known in
    let x : List ℕ = g.Q.Purse.tickets c.lengths.purse in
    let y : List ℕ = g.Q.Purse.tickets c.search.new.purse in
    let one = subst (λ (z : TransitionSystem). PaysOne z (k + 1) mid new x y) i.system c.search.ensures.pays in
    let finds = rw c.in-None.is at c.in_ok-search.ensures.found in
    let none = subst (λ (z : TransitionSystem). HasNoFairLasso z (k + 1)) i.system finds in
    let from = i.from in
    let before : List ℕ = g.Q.Purse.tickets c.args.purse.now in
    let old = c.args.solver.now.known in
    record {
      searched = searched_next m c.args.first k old mid new before x y i.searched i.from one none;
      from = omega (arith, from);
      system = c.search.ensures.system ∙ i.system;
      kept = g.met.Q.Purse.kept_trans c.args.purse.now c.lengths.purse c.search.new.purse i.kept c.search.ensures.kept;
      ready = c.search.ensures.ready;
      budget = c.search.ensures.budget ∙ i.budget;
    }
