-- What comes of the tests of the trace of a run, and what is shown where it is accepted.
use Rattle.std.proofs.Common.{◌∙◌, ◌-◌, ◌<◌, ap, length, map, arith}
use Rattle.smv_resolve.specs.Items.{item_by}
use Rattle.smv_meaning.specs.Runs.{specifications_of}
use Rattle.trace_replay.proofs.Judged.{run_judged_at, run_shown_at}
use Rattle.trace_replay.proofs.replaying.replay_run.Goals as goal

pub returns-clause-judged : goal.returns-clause-judged
returns-clause-judged c =
    let p = c.args.typed.now.scope.program in
    let nodes = c.args.typed.now.nodes in
    let within : c.args.spec - 1 < length (specifications_of p) = omega (arith, c.requires.first, c.requires.last) in
    run_judged_at p (item_by nodes) c.as_slice.result.now (specifications_of p) (c.args.spec - 1) _ c.args.trace.now c.judge_run.result
    (ap (map (item_by nodes)) c.as_slice.ensures ∙ c.in_ok-specs.ensures.resolved) within c.judge_run.ensures

pub returns-clause-accepted : goal.returns-clause-accepted
returns-clause-accepted c =
    let p = c.args.typed.now.scope.program in
    let nodes = c.args.typed.now.nodes in
    let within : c.args.spec - 1 < length (specifications_of p) = omega (arith, c.requires.first, c.requires.last) in
    run_shown_at p (item_by nodes) c.as_slice.result.now (specifications_of p) (c.args.spec - 1) _ c.args.trace.now c.judge_run.result
    (ap (map (item_by nodes)) c.as_slice.ensures ∙ c.in_ok-specs.ensures.resolved) within c.args.typed.now.right_types c.judge_run.ensures

pub judge_run-requires : goal.judge_run-requires
judge_run-requires c = record { types = c.args.typed.now.right_types }
