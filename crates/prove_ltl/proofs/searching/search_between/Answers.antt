use Rattle.std.proofs.Common.{ℕ, ◌-◌, ◌++◌, ◌∙◌, List, [], subst, arith}
use Rattle.std.proofs.lemmas.List.Elements.{All-nil}
use Rattle.clause_core.specs.Systems.{TransitionSystem}
use Rattle.lasso_search.specs.Lassos.{IsFairLasso, HasNoFairLasso}
use Rattle.lasso_search.specs.Paying.{PaysOne}
use Rattle.lasso_search.specs.declared.searched.Searched.{Searched}
use Rattle.prove_ltl.specs.Lengths.{IsOfLength}
use Rattle.prove_ltl.specs.Searching.{LengthsSay}
use Rattle.prove_ltl.proofs.Longer.{added, pays_one, pays_less, stands_after}
use Rattle.prove_ltl.proofs.searching.search_between.Goals as goal

pub returns-in-None-clause-says : goal.returns-in-None-clause-says
returns-in-None-clause-says g c =
    let m = c.args.solver.now.system in
    let low : ℕ = c.args.low in
    let high : ℕ = c.args.high in
    let old = c.args.solver.now.known in
    let new = c.search.new.self.known in
    let x : List ℕ = g.Q.Purse.tickets c.args.purse.now in
    let y : List ℕ = g.Q.Purse.tickets c.search.new.purse in
    let one : PaysOne m high old new x y = c.search.ensures.pays in
    let none : HasNoFairLasso m high = rw c.in-None.is at c.in_ok-search.ensures.found in
    record {
      log = added m high old new x y one;
      pays = pays_one m high old new x y one low high c.requires.some (omega arith);
      finds = λ n some le. c.shorter_lassos.ensures m n high le none;
    }

pub returns-in-Spent-clause-says : goal.returns-in-Spent-clause-says
returns-in-Spent-clause-says g c =
    let m = c.args.solver.now.system in
    let low : ℕ = c.args.low in
    let high : ℕ = c.args.high in
    let old = c.args.solver.now.known in
    let new = c.search.new.self.known in
    let x : List ℕ = g.Q.Purse.tickets c.args.purse.now in
    let y : List ℕ = g.Q.Purse.tickets c.search.new.purse in
    let one : PaysOne m high old new x y = c.search.ensures.pays in
    let finds = rw c.in-Spent.is at c.in_ok-search.ensures.found in
    record {
      log = added m high old new x y one;
      pays = pays_one m high old new x y one low high c.requires.some (omega arith);
      finds = (
        stands_after m high old new x y one low low high [] (All-nil (IsOfLength m low low)) (λ n some le. absurd (omega (arith, some, le))) (omega arith)
            c.requires.some (omega arith),
        finds.2,
      );
    }

pub returns-in-Found-2-clause-says : goal.returns-in-Found-2-clause-says
returns-in-Found-2-clause-says g c =
    let m = c.args.solver.now.system in
    let low : ℕ = c.args.low in
    let high : ℕ = c.args.high in
    let lt = c.requires.some in
    let old = c.args.solver.now.known in
    let mid = c.search.new.self.known in
    let new = c.search_lengths.new.solver.known in
    let x : List ℕ = g.Q.Purse.tickets c.args.purse.now in
    let y : List ℕ = g.Q.Purse.tickets c.search.new.purse in
    let z : List ℕ = g.Q.Purse.tickets c.search_lengths.new.purse in
    let over = g.Q.Purse.spent c.search_lengths.new.purse in
    let one : PaysOne m high old mid x y = c.search.ensures.pays in
    let answer : Searched = c.in_ok-shorter-in-Found.field-0 in
    let says : LengthsSay m low (high - 1) mid new y z over answer =
    subst (λ (s : TransitionSystem). LengthsSay s low (high - 1) mid new y z over answer) c.search.ensures.system c.in_ok-shorter-in-Found.ensures.says in
    let finds = rw c.in-Found-2.is at says.finds in
    record {
      log = added m high old mid x y one ++ says.log;
      pays = pays_less m low (high - 1) high old mid new x y z (added m high old mid x y one) says.log (omega (arith, lt)) (omega arith)
          (pays_one m high old mid x y one (high - 1) high (omega (arith, lt)) (omega arith)) says.pays;
      finds = finds;
    }

pub returns-in_default : goal.returns-in_default
returns-in_default g c =
    let m = c.args.solver.now.system in
    let low : ℕ = c.args.low in
    let high : ℕ = c.args.high in
    let lt = c.requires.some in
    let old = c.args.solver.now.known in
    let mid = c.search.new.self.known in
    let new = c.search_lengths.new.solver.known in
    let x : List ℕ = g.Q.Purse.tickets c.args.purse.now in
    let y : List ℕ = g.Q.Purse.tickets c.search.new.purse in
    let z : List ℕ = g.Q.Purse.tickets c.search_lengths.new.purse in
    let over = g.Q.Purse.spent c.search_lengths.new.purse in
    let one : PaysOne m high old mid x y = c.search.ensures.pays in
    let answer : Searched = c.in_ok-shorter-in-Found.field-0 in
    let says : LengthsSay m low (high - 1) mid new y z over answer =
    subst (λ (s : TransitionSystem). LengthsSay s low (high - 1) mid new y z over answer) c.search.ensures.system c.in_ok-shorter-in-Found.ensures.says in
    let fair : IsFairLasso m high c.in-Found.lasso = rw c.in-Found.is at c.in_ok-search.ensures.found in
    record {
      says = record {
        log = added m high old mid x y one ++ says.log;
        pays = pays_less m low (high - 1) high old mid new x y z (added m high old mid x y one) says.log (omega (arith, lt)) (omega arith)
            (pays_one m high old mid x y one (high - 1) high (omega (arith, lt)) (omega arith)) says.pays;
        finds = (high, fair);
      };
      system = c.search_lengths.ensures.system ∙ c.search.ensures.system;
      kept = g.met.Q.Purse.kept_trans c.args.purse.now c.search.new.purse c.search_lengths.new.purse c.search.ensures.kept c.search_lengths.ensures.kept;
      ready = c.search_lengths.ensures.ready;
      budget = c.search_lengths.ensures.budget ∙ c.search.ensures.budget;
    }
