-- What comes of the tests, and what is shown where a trace is accepted.
use Rattle.std.proofs.Common.{◌∙◌, ◌-◌, ◌<◌, ap, length, map, arith}
use Rattle.smv_resolve.specs.Items.{item_by}
use Rattle.smv_meaning.specs.Runs.{specifications_of}
use Rattle.trace_replay.proofs.Judged.{judged_at, shown_at}
use Rattle.trace_replay.proofs.replaying.replay.Goals as goal

pub returns-clause-judged : goal.returns-clause-judged
returns-clause-judged c =
    let p = c.args.typed.now.scope.program in
    let nodes = c.args.typed.now.nodes in
    let within : c.args.spec - 1 < length (specifications_of p) = omega (arith, c.requires.first, c.requires.last) in
    judged_at p (item_by nodes) c.as_slice.result.now (specifications_of p) (c.args.spec - 1) _ c.args.trace.now c.judge.result
    (ap (map (item_by nodes)) c.as_slice.ensures ∙ c.in_ok-specs.ensures.resolved) within c.judge.ensures

pub returns-clause-accepted : goal.returns-clause-accepted
returns-clause-accepted c =
    let p = c.args.typed.now.scope.program in
    let nodes = c.args.typed.now.nodes in
    let within : c.args.spec - 1 < length (specifications_of p) = omega (arith, c.requires.first, c.requires.last) in
    shown_at p (item_by nodes) c.as_slice.result.now (specifications_of p) (c.args.spec - 1) _ c.args.trace.now c.judge.result
    (ap (map (item_by nodes)) c.as_slice.ensures ∙ c.in_ok-specs.ensures.resolved) within c.args.typed.now.right_types c.judge.ensures

pub judge-requires : goal.judge-requires
judge-requires c = record { types = c.args.typed.now.right_types }
