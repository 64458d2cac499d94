-- Values that are not as they should be.
use Rattle.std.proofs.Common.{sym, subst}
use Rattle.smv_resolve.specs.Items.{item_by}
use Rattle.trace_replay.specs.Lassos.{IsLassoReplay, IsLassoTelling}
use Rattle.trace_replay.proofs.OfLassos.{values_first}
use Rattle.trace_replay.proofs.lassos.judge_lasso.Goals as goal

pub returns-in-Unfit : goal.returns-in-Unfit
returns-in-Unfit c =
    let p = c.args.typed.now.scope.program in
    let spec = item_by c.args.typed.now.nodes c.args.spec.now in
    let t = c.args.trace.now in
    subst (IsLassoReplay p spec t) (sym c.rejected.ensures)
    (values_first p spec t c.in-Unfit.number (subst (IsLassoTelling p t) c.in-Unfit.is c.in_ok-number.ensures))
