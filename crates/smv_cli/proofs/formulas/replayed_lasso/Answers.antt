-- The trace of a lasso that violates the specification is accepted, since nothing faults along it.
use Rattle.std.proofs.Common.{◌≡◌, ◌∙◌, List, ap}
use Rattle.smv_value.specs.declared.value.Value.{Value}
use Rattle.smv_resolve.specs.Items.{item_by}
use Rattle.smv_meaning.specs.Lassos.{Lasso}
use Rattle.trace_replay.specs.Lassos.{lasso_trace}
use Rattle.bit_runs.specs.Running.{lasso_at}
use Rattle.smv_cli.proofs.Replays.{is_numbered, lasso_never_rejected, shown_by_lasso}
use Rattle.smv_cli.proofs.formulas.replayed_lasso.Goals as goal

pub replay-requires-clause-last : goal.replay-requires-clause-last
replay-requires-clause-last c = is_numbered c.args.typed.now.scope.program c.args.number (item_by c.args.typed.now.nodes c.args.spec.now) c.requires.numbered

pub unreachable-requires : goal.unreachable-requires
unreachable-requires c =
    let typed = c.args.typed.now in
    let p = typed.scope.program in
    let spec = item_by typed.nodes c.args.spec.now in
    let lasso = c.args.lasso.now in
    let trace = c.in_ok-trace.trace in
    let of : List (List Value) → List (List Value) → Lasso = λ s u. record { states = s; inputs = u; start = lasso.start } in
    let told : trace ≡ lasso_trace p (lasso_at lasso) =
    c.in_ok-trace.ensures
    ∙ ap (λ (s : List (List Value)). lasso_trace p (of s c.as_slice-inputs.result.now)) c.as_slice-states.ensures
    ∙ ap (λ (u : List (List Value)). lasso_trace p (of lasso.states u)) c.as_slice-inputs.ensures in
    let violated = shown_by_lasso p c.requires.fault_free c.args.number spec c.requires.numbered c.requires.temporal (lasso_at lasso) trace told c.requires.violates in
    lasso_never_rejected p c.args.number spec trace c.in_ok-replay.field-0 c.in-Rejected.rule c.in-Rejected.number c.requires.numbered c.requires.temporal c.in_ok-replay.ensures.accepted violated c.in-Rejected.is
