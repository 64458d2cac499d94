use Rattle.std.proofs.Common.{◌∙◌, ap, arith}
use Rattle.clause_core.specs.Systems.{TransitionSystem}
use Rattle.sat_core.specs.Queries.{State}
use Rattle.frame_solver.proofs.Renewed.{bads_more}
use Rattle.frame_solver.proofs.renewing.push_bads.Goals as goal

pub systems-preserved : goal.systems-preserved
systems-preserved c =
    let done = c.in_ok-push_group.ensures.done in (
      ap (λ (s : State). s.vars) done ∙ c.systems.invariant.0,
      ap (λ (s : State). s.learned) done ∙ c.systems.invariant.1,
      bads_more c.args.systems.now c.args.base c.args.solver.now.vars c.systems.j c.bad.result.now c.systems.solver.given c.push_group.new.solver.given
          (omega (arith, c.systems-test.true)) c.systems.invariant.2 (c.bad.ensures ∙ ap (λ (s : TransitionSystem). s.bad) c.system_of-system.ensures.value)
          (ap (λ (s : State). s.given) done),
    )
