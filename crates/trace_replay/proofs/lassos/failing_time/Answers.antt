-- The formula does not fault in one state more.
use Rattle.std.proofs.Common.{◌≡◌, ◌∙◌, true, below_more, sym, arith}
use Rattle.smv_resolve.specs.Items.{item_by}
use Rattle.trace_replay.specs.Faultless.{is_evaluated}
use Rattle.trace_replay.proofs.OfTests.{evaluated_here}
use Rattle.trace_replay.proofs.lassos.failing_time.Goals as goal

pub loop-i-preserved : goal.loop-i-preserved
loop-i-preserved c =
    let p = c.args.typed.now.scope.program in
    let spec = item_by c.args.typed.now.nodes c.args.spec.now in
    let states = c.args.states.now in
    let inputs = c.args.inputs.now in
    let i = c.loop-i.i in
    below_more (λ j. is_evaluated p spec states inputs j ≡ true) i c.loop-i.invariant
    (evaluated_here p spec states inputs i _ _ (omega (arith, c.loop-i-test.true)) c.requires c.index-states-i.is c.index-inputs-i.is
    (sym c.in_ok-is_faultless.ensures ∙ c.if-not-branch.false))
