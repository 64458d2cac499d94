use Rattle.std.proofs.Common.{ℕ, Bool, ◌∙◌, List, subst, arith}
use Rattle.clause_core.specs.Systems.{TransitionSystem}
use Rattle.lasso_search.specs.declared.searched.Searched.{Searched}
use Rattle.lasso_search.specs.declared.searched.Searched.TheVariants.{Found, None, Spent}
use Rattle.prove_ltl.specs.Searching.{LengthsSay}
use Rattle.prove_ltl.proofs.Longer.{says_further, searched_further, stands_further}
use Rattle.prove_ltl.proofs.searching.search_all.Goals as goal

pub returns-in-Found-2-clause-says : goal.returns-in-Found-2-clause-says
returns-in-Found-2-clause-says g c =
    let m = c.args.system.now in
    let i = c.longer.invariant in
    let k : ℕ = c.longer.low in
    let high : ℕ = c.length_after-high.result in
    let known = c.longer.solver.known in
    let new = c.search_between.new.solver.known in
    let x : List ℕ = g.Q.Purse.tickets c.longer.purse in
    let y : List ℕ = g.Q.Purse.tickets c.search_between.new.purse in
    let over : Bool = g.Q.Purse.spent c.search_between.new.purse in
    let answer : Searched = Found c.in-Found-2.lasso in
    let there = rw c.in-Found-2.is at c.in_ok-search_between.ensures.says in
    let says : LengthsSay m k high known new x y over answer = subst (λ (z : TransitionSystem). LengthsSay z k high known new x y over answer) i.system there in
    let more = c.length_after-high.ensures.more in
    says_further m k high known new x y i.searched over answer says (omega (arith, more)) c.args.bound c.length_after-high.ensures.within says.finds

pub returns-in-Spent-2-clause-says : goal.returns-in-Spent-2-clause-says
returns-in-Spent-2-clause-says g c =
    let m = c.args.system.now in
    let i = c.longer.invariant in
    let k : ℕ = c.longer.low in
    let high : ℕ = c.length_after-high.result in
    let known = c.longer.solver.known in
    let new = c.search_between.new.solver.known in
    let x : List ℕ = g.Q.Purse.tickets c.longer.purse in
    let y : List ℕ = g.Q.Purse.tickets c.search_between.new.purse in
    let over : Bool = g.Q.Purse.spent c.search_between.new.purse in
    let answer : Searched = Spent c.in-Spent-2.drawn c.in-Spent-2.budget in
    let there = rw c.in-Spent-2.is at c.in_ok-search_between.ensures.says in
    let says : LengthsSay m k high known new x y over answer = subst (λ (z : TransitionSystem). LengthsSay z k high known new x y over answer) i.system there in
    let more = c.length_after-high.ensures.more in
    let within = c.length_after-high.ensures.within in
    says_further m k high known new x y i.searched over answer says (omega (arith, more)) c.args.bound within
    (stands_further m k high known new x y i.searched over answer says (omega (arith, more)) c.args.bound within says.finds.0, says.finds.1)

pub longer-preserved : goal.longer-preserved
longer-preserved g c =
    let m = c.args.system.now in
    let i = c.longer.invariant in
    let k : ℕ = c.longer.low in
    let high : ℕ = c.length_after-high.result in
    let known = c.longer.solver.known in
    let new = c.search_between.new.solver.known in
    let x : List ℕ = g.Q.Purse.tickets c.longer.purse in
    let y : List ℕ = g.Q.Purse.tickets c.search_between.new.purse in
    let over : Bool = g.Q.Purse.spent c.search_between.new.purse in
    let answer : Searched = None in
    let there = rw c.in-None-2.is at c.in_ok-search_between.ensures.says in
    let says : LengthsSay m k high known new x y over answer = subst (λ (z : TransitionSystem). LengthsSay z k high known new x y over answer) i.system there in
    let more = c.length_after-high.ensures.more in
    record {
      searched = searched_further m k high known new x y i.searched over answer says (omega (arith, more)) says.finds;
      within = c.length_after-high.ensures.within;
      system = c.search_between.ensures.system ∙ i.system;
      kept = g.met.Q.Purse.kept_trans c.args.purse.now c.longer.purse c.search_between.new.purse i.kept c.search_between.ensures.kept;
      ready = c.search_between.ensures.ready;
      budget = c.search_between.ensures.budget ∙ i.budget;
    }
