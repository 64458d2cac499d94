use Rattle.std.proofs.Common.{◌+◌, refl, arith}
use Rattle.lasso_search.specs.Unrolling.{moment}
use Rattle.lasso_search.proofs.Loaded.{step_within, step_loaded}
use Rattle.lasso_search.proofs.loading.load_step.Goals as goal

pub push_moment-requires : goal.push_moment-requires
push_moment-requires c =
    let m = c.args.system.now in
    let e = c.args.engine.now in
    step_within m c.law.ensures (e.steps + 1) e.solver.vars c.requires.room c.args.plan.now c.requires.plan e.steps (moment c.args.plan.now m e.steps)
    (omega arith) refl

pub returns-clause-loaded : goal.returns-clause-loaded
returns-clause-loaded c =
    let m = c.args.system.now in
    let e = c.args.engine.now in
    step_loaded m c.args.plan.now e c.in_ok-next.next (moment c.args.plan.now m e.steps) c.push_moment.new.solver c.requires.plan refl c.in_ok-next.ensures
    c.in_ok-push_moment.ensures c.requires.loaded c.requires.room
