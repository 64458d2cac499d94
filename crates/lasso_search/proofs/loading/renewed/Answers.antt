use Rattle.std.proofs.Common.{◌≡◌, ◌≤◌, ◌∙◌, arith}
use Rattle.lasso_search.specs.Unrolling.{vars_of}
use Rattle.lasso_search.specs.Searches.{known_of}
use Rattle.lasso_search.proofs.Loaded.{vars_is, vars_grow, all_known, none_known}
use Rattle.lasso_search.proofs.loading.renewed.Goals as goal

pub returns-in-Some-clause-room : goal.returns-in-Some-clause-room
returns-in-Some-clause-room c =
    let m = c.args.system.now in
    let need : c.in_ok-need.need ≡ vars_of m c.args.steps = c.in_ok-need.ensures ∙ vars_is m c.args.plan.now c.args.steps c.requires.plan in
    omega (arith, need, c.in-Some.ensures.1)

pub returns-in-Some-clause-known : goal.returns-in-Some-clause-known
returns-in-Some-clause-known c = all_known c.args.kept c.in-Some.engine c.in-Some.ensures.0

pub returns-in_ok-engine-in-None-clause-room : goal.returns-in_ok-engine-in-None-clause-room
returns-in_ok-engine-in-None-clause-room c =
    let m = c.args.system.now in
    let more : vars_of m c.args.steps ≤ vars_of m c.room_for.result = vars_grow m c.args.steps c.room_for.result c.room_for.ensures in
    omega (arith, more, c.in_ok-engine-in-None.ensures.room)

pub returns-in_ok-engine-in-None-clause-known : goal.returns-in_ok-engine-in-None-clause-known
returns-in_ok-engine-in-None-clause-known c = none_known (known_of c.args.kept) c.in_ok-engine-in-None.engine.solver.learned c.in_ok-engine-in-None.ensures.known
