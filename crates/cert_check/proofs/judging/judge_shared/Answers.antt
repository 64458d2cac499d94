use Rattle.std.proofs.Common.{◌≤◌, ℕ, ◌∙◌, sym, subst, List, arith}
use Rattle.std.specs.List.{All}
use Rattle.std.proofs.lemmas.List.Elements.{All-append}
use Rattle.clause_core.specs.declared.literal.Lit.{Lit}
use Rattle.clause_core.specs.Literals.{Within}
use Rattle.cert_check.proofs.Verdicts.{near_all, within_more, begun_at, fails_at}
use Rattle.cert_check.proofs.judging.judge_shared.Goals as goal

pub share-requires : goal.share-requires
share-requires c =
    let n = c.state_bits.result in
    let m = c.args.checker.now in
    let cs = c.clauses-clauses.result.now in
    let steps = c.step.result.now in
    let le : n ≤ m = omega (arith, c.requires, c.state_bits.ensures.room) in
    let near : All (Within m) cs = within_more n m cs le (near_all n cs c.in-None.ensures) in
    let P : List (List Lit) → Type 0 = All (Within m) in
    let Q : List (List Lit) → Type 0 = All (Within c.args.system.now.all_bits) in
    let R : ℕ → Type 0 = λ w. All (Within w) steps in
    let step : R m = subst R (sym c.requires) (subst Q (sym c.step.ensures) c.law.ensures.step_in) in
    subst P (sym c.in_ok-given-in-Hinted.ensures) (All-append (Within m) cs steps near step)

pub returns-then-share-clause-says : goal.returns-then-share-clause-says
returns-then-share-clause-says c =
    let cert = c.args.cert.now in
    let sys = c.args.system.now in
    begun_at sys cert c.args.checker.now c.state_bits.result c.clauses-clauses.result.now c.step.result.now c.in_ok-given-in-Hinted.given
    (sym c.form.ensures ∙ c.in-Hinted.is) c.requires c.state_bits.ensures.value c.clauses-clauses.ensures c.step.ensures c.in_ok-given-in-Hinted.ensures c.in-None.ensures c.if-share.ensures.says

pub returns-clause-says : goal.returns-clause-says
returns-clause-says c =
    let cert = c.args.cert.now in
    let sys = c.args.system.now in
    fails_at sys cert c.args.checker.now c.state_bits.result c.clauses-clauses.result.now c.step.result.now c.in_ok-given-in-Hinted.given
    (sym c.form.ensures ∙ c.in-Hinted.is) c.requires c.state_bits.ensures.value c.clauses-clauses.ensures c.step.ensures c.in_ok-given-in-Hinted.ensures c.in-None.ensures c.if-share.ensures.says
