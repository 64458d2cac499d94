use Rattle.std.proofs.Common.{List, ap, subst}
use Rattle.std.specs.Prelude.{All, Contains}
use Rattle.clause_core.specs.declared.literal.Lit.{Lit}
use Rattle.lasso_search.specs.Searches.{known_of}
use Rattle.lasso_search.proofs.Paid.{pays_sub}
use Rattle.lasso_search.proofs.searching.search_in.Goals as goal

pub returns-clause-pays : goal.returns-clause-pays
returns-clause-pays g c =
    let known = subst (λ (xs : List (List Lit)). All (Contains xs) c.in_ok-engine.engine.solver.learned) (ap known_of c.take.ensures.value) c.in_ok-engine.ensures.known in
    pays_sub c.args.system.now c.args.states (known_of c.args.kept.now) c.in_ok-engine.engine.solver.learned c.ask-answer.new.engine.solver.learned
    (g.Q.Purse.tickets c.args.purse.now) (g.Q.Purse.tickets c.ask-answer.new.purse) known c.ask-answer.ensures.pays
