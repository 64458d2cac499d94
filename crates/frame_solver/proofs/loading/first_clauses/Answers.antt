use Rattle.std.proofs.Common.{sym, subst, List, map, ◌∙◌, ap, arith, ◌≡◌}
use Rattle.std.specs.Prelude.{All}
use Rattle.std.proofs.lemmas.List.{take_all}
use Rattle.clause_core.specs.declared.literal.Lit.{Lit}
use Rattle.clause_core.specs.Literals.{Within}
use Rattle.frame_solver.specs.Groups.{base, first_clause}
use Rattle.frame_solver.proofs.Loaded.{first_within}
use Rattle.frame_solver.proofs.loading.first_clauses.Goals as goal

pub returns-clause-within : goal.returns-clause-within
returns-clause-within c =
    let sys = c.args.system.now in
    let P : List (List Lit) → Type 0 = All (Within (base sys)) in
    let here : c.clauses.clauses ≡ map (first_clause sys) sys.init =
    c.clauses.invariant ∙ ap (map (first_clause sys)) (take_all c.clauses.k c.init-init.result.now (omega (arith, c.len-k-end.ensures)) ∙ c.init-init.ensures) in
    subst P (sym here) (first_within sys sys.init c.law.ensures.room c.law.ensures.init_in)
