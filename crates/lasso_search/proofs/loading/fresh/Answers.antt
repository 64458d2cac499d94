use Rattle.std.proofs.Common.{◌≡◌, ℕ, [], refl, ap, ◌∙◌, arith}
use Rattle.sat_core.specs.Queries.{State}
use Rattle.lasso_search.specs.Unrolling.{opening, vars_of}
use Rattle.lasso_search.proofs.Loaded.{vars_is, first_within, first_loaded}
use Rattle.lasso_search.proofs.loading.fresh.Goals as goal

pub push_opening-requires : goal.push_opening-requires
push_opening-requires c =
    let m = c.args.system.now in
    let s = c.in_ok-solver.solver in
    let vars : s.vars ≡ vars_of m c.args.room =
    ap (λ (x : State). x.vars) c.in_ok-solver.ensures ∙ c.in_ok-variables.ensures ∙ vars_is m c.args.plan.now c.args.room c.requires.plan in
    first_within m c.law.ensures c.args.room s.vars (omega (arith, vars)) c.args.plan.now c.requires.plan (opening c.args.plan.now m) refl

pub returns-clause-loaded : goal.returns-clause-loaded
returns-clause-loaded c =
    let m = c.args.system.now in
    let new = c.in_ok-solver.ensures ∙ ap (λ (k : ℕ). record { vars = k; given = []; learned = [] }) c.in_ok-variables.ensures in
    first_loaded m c.args.plan.now c.args.room (opening c.args.plan.now m) c.in_ok-solver.solver c.push_opening.new.solver c.requires.plan
    refl new c.in_ok-push_opening.ensures

pub returns-clause-room : goal.returns-clause-room
returns-clause-room c =
    let m = c.args.system.now in
    let vars : c.push_opening.new.solver.vars ≡ vars_of m c.args.room =
    ap (λ (x : State). x.vars) c.in_ok-push_opening.ensures ∙ ap (λ (x : State). x.vars) c.in_ok-solver.ensures ∙ c.in_ok-variables.ensures
    ∙ vars_is m c.args.plan.now c.args.room c.requires.plan in
    omega (arith, vars)
