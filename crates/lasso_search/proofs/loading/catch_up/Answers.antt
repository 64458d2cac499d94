use Rattle.std.proofs.Common.{◌+◌, ◌≤◌, arith}
use Rattle.lasso_search.specs.Unrolling.{vars_of}
use Rattle.lasso_search.proofs.Loaded.{vars_grow}
use Rattle.lasso_search.proofs.loading.catch_up.Goals as goal

pub load_step-requires-clause-room : goal.load_step-requires-clause-room
load_step-requires-clause-room c =
    let m = c.args.system.now in
    let e = c.steps.engine in
    let low : vars_of m (e.steps + 1) ≤ vars_of m c.args.steps = vars_grow m (e.steps + 1) c.args.steps (omega (arith, c.steps.invariant.1, c.steps-test.true)) in
    omega (arith, low, c.requires.room, c.steps.invariant.2)
