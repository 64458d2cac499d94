-- One JUSTICE more, and all of them.
use Rattle.std.proofs.Common.{◌≡◌, ◌∙◌, inl, inr, true, map, ap, below_more, arith}
use Rattle.std.proofs.lemmas.Bool.{cases_lt}
use Rattle.smv_resolve.specs.Items.{item_by}
use Rattle.trace_replay.specs.Lassos.{is_fair}
use Rattle.trace_replay.proofs.OfLassos.{fair_here, fair_past}
use Rattle.trace_replay.proofs.lassos.failing_fair.Goals as goal

pub loop-i-preserved : goal.loop-i-preserved
loop-i-preserved c =
    let p = c.args.typed.now.scope.program in
    let nodes = c.args.typed.now.nodes in
    below_more (λ j. is_fair p c.args.states.now j ≡ true) c.loop-i.i c.loop-i.invariant
    (fair_here p nodes c.as_slice-justice-items.result.now (ap (map (item_by nodes)) c.as_slice-justice-items.ensures ∙ c.in_ok-justices.ensures) c.args.states.now
    c.loop-i.i _ c.in_ok-is_met.field-0 (omega (arith, c.loop-i-test.true)) c.in_ok-is_met.ensures c.if-not-branch.false)

pub returns : goal.returns
returns c =
    let p = c.args.typed.now.scope.program in
    let nodes = c.args.typed.now.nodes in
    λ k. elim (cases_lt k c.loop-i.i) [
      | inl h ↦ c.loop-i.invariant k h
      | inr h ↦
          fair_past p nodes c.as_slice-justice-items.result.now (ap (map (item_by nodes)) c.as_slice-justice-items.ensures ∙ c.in_ok-justices.ensures) c.args.states.now
          k (omega (arith, c.loop-i-test.false, h))
    ]
