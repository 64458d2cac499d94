use Rattle.std.proofs.Common.{List, sym, subst}
use Rattle.std.specs.Prelude.{All, Contains}
use Rattle.clause_core.specs.declared.literal.Lit.{Lit}
use Rattle.lasso_search.specs.Searches.{known_of}
use Rattle.lasso_search.proofs.loading.ready.Goals as goal

pub returns-clause-known : goal.returns-clause-known
returns-clause-known c =
    subst (λ (xs : List (List Lit)). All (Contains (known_of c.args.kept)) xs) (sym c.in_ok-catch_up.ensures.known) c.in_ok-engine.ensures.known
