use Rattle.std.proofs.Common.{◌≡◌, ◌++◌, ℕ, ◌∙◌, ap, sym, subst, List}
use Rattle.std.specs.List.{All}
use Rattle.clause_core.specs.declared.literal.Lit.{Lit}
use Rattle.clause_core.specs.Literals.{Within}
use Rattle.cert_core.specs.Certificates.{shared_steps}
use Rattle.cert_check.proofs.Verdicts.{kept_within}
use Rattle.cert_check.proofs.judging.judge_rest.Goals as goal

pub judge_kept-requires-clause-given_in : goal.judge_kept-requires-clause-given_in
judge_kept-requires-clause-given_in c =
    let sys = c.args.system.now in
    let cert = c.args.cert.now in
    let shared = shared_steps cert.form cert.shared in
    let same : c.in_ok-given.given ≡ cert.clauses ++ sys.step ++ shared =
    c.in_ok-given.ensures ∙ ap (λ (w : List (List Lit)). cert.clauses ++ w ++ shared) c.step.ensures in
    let P : List (List Lit) → Type 0 = All (Within sys.all_bits) in
    let R : ℕ → Type 0 = λ w. All (Within w) c.in_ok-given.given in
    subst R (sym c.requires.vars)
    (subst P (sym same) (kept_within sys cert c.requires.room c.law.ensures.step_in c.requires.begun c.requires.first))
