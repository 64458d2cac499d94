-- There is a step from one state more.
use Rattle.std.proofs.Common.{◌≡◌, ◌∙◌, true, below_more, sym, arith}
use Rattle.trace_replay.specs.Tests.{goes_on}
use Rattle.trace_replay.proofs.OfTests.{step_here}
use Rattle.trace_replay.proofs.replaying.failing_step.Goals as goal

pub loop-i-preserved : goal.loop-i-preserved
loop-i-preserved c =
    let p = c.args.typed.now.scope.program in
    let states = c.args.states.now in
    let inputs = c.args.inputs.now in
    let i = c.loop-i.i in
    below_more (λ j. goes_on p states inputs j ≡ true) i c.loop-i.invariant
    (step_here p states inputs i _ _ _ (omega (arith, c.loop-i-test.true)) c.requires c.index-states-i.is c.index-inputs-i.is c.index-states-i-in-loop-i.is
    (sym c.in_ok-steps_well.ensures ∙ c.if-not-branch.false))
