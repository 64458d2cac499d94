-- The trace of a run that breaks the specification is accepted, since nothing faults along it.
use Rattle.smv_resolve.specs.Items.{item_by}
use Rattle.smv_cli.proofs.Replays.{is_numbered, never_rejected, shown}
use Rattle.smv_cli.proofs.judging.replayed.Goals as goal

pub replay_run-requires-clause-last : goal.replay_run-requires-clause-last
replay_run-requires-clause-last c = is_numbered c.args.typed.now.scope.program c.args.number (item_by c.args.typed.now.nodes c.args.spec.now) c.requires.numbered

pub unreachable-requires : goal.unreachable-requires
unreachable-requires c =
    let typed = c.args.typed.now in
    let p = typed.scope.program in
    let spec = item_by typed.nodes c.args.spec.now in
    let broken = shown p c.requires.fault_free typed.right_types c.in_ok-some_inputs.ensures spec c.args.states.now c.args.inputs.now c.in_ok-trace.trace c.in_ok-trace.ensures c.requires.broken in
    never_rejected p c.args.number spec c.in_ok-trace.trace c.in_ok-replay_run.field-0 c.in-Rejected.rule c.in-Rejected.number c.requires.numbered c.in_ok-replay_run.ensures.accepted broken c.in-Rejected.is
