-- What comes of the tests behind that of values.
use Rattle.std.proofs.Common.{◌≡◌, ◌∙◌, ◌+◌, ◌<◌, ℕ, List, length, sym, subst, ap, true}
use Rattle.smv_value.specs.declared.value.Value.{Value}
use Rattle.smv_resolve.specs.Items.{item_by}
use Rattle.trace_replay.specs.declared.rule.ReplayRule.TheVariants as rule
use Rattle.trace_replay.specs.Rows.{states_told}
use Rattle.trace_replay.specs.Telling.{FirstFailing, IsFirstFailing}
use Rattle.trace_replay.specs.Tests.{IsReplay, begins, ends, goes_on, stays}
use Rattle.trace_replay.proofs.OfTests.{Passed, loop_first, no_loop, one_more, passed_from, some_told, spec_first}
use Rattle.trace_replay.proofs.replaying.judge_values.Goals as goal

pub failing_first-requires : goal.failing_first-requires
failing_first-requires c = subst (λ (ss : List (List Value)). 0 < length ss) (sym c.as_slice-states.ensures) (some_told c.args.typed.now.scope.program c.args.trace.now c.args.told.now c.requires)

pub failing_step-requires : goal.failing_step-requires
failing_step-requires c =
    ap length c.as_slice-states.ensures ∙ one_more c.args.typed.now.scope.program c.args.trace.now c.args.told.now c.requires
    ∙ ap (λ (us : List (List Value)). length us + 1) (sym c.as_slice-inputs.ensures)

pub failing_spec-requires : goal.failing_spec-requires
failing_spec-requires c = subst (λ (ss : List (List Value)). 0 < length ss) (sym c.as_slice-states.ensures) (some_told c.args.typed.now.scope.program c.args.trace.now c.args.told.now c.requires)

pub returns-in-Some-start : goal.returns-in-Some-start
returns-in-Some-start c =
    let p = c.args.typed.now.scope.program in
    let t = c.args.trace.now in
    let spec = item_by c.args.typed.now.nodes c.args.spec.now in
    let states = c.as_slice-states.ensures ∙ c.requires.states in
    let inputs = c.as_slice-inputs.ensures ∙ c.requires.inputs in
    let first : Passed p spec t rule.First = subst (λ (ss : List (List Value)). (i : ℕ) → begins p ss i ≡ true) states (passed_from _ _ c.in_ok-number.ensures c.in_default.not-Some) in
    let inv : Passed p spec t rule.Inv = subst (λ (ss : List (List Value)). (i : ℕ) → stays p ss i ≡ true) states (passed_from _ _ c.in_ok-number-2.ensures c.in_default-2.not-Some) in
    let step : Passed p spec t rule.Step =
    subst (λ (us : List (List Value)). (i : ℕ) → goes_on p (states_told p t) us i ≡ true) inputs
    (subst (λ (ss : List (List Value)). (i : ℕ) → goes_on p ss c.as_slice-inputs.result.now i ≡ true) states (passed_from _ _ c.in_ok-number-3.ensures c.in_default-3.not-Some)) in
    subst (IsReplay p spec t) (sym c.rejected-in-Some-start.ensures) (loop_first p spec t c.requires.fit first inv step c.in-Some-start.number c.in-Some-start.is)

pub returns-in-Some-4 : goal.returns-in-Some-4
returns-in-Some-4 c =
    let p = c.args.typed.now.scope.program in
    let t = c.args.trace.now in
    let spec = item_by c.args.typed.now.nodes c.args.spec.now in
    let states = c.as_slice-states.ensures ∙ c.requires.states in
    let inputs = c.as_slice-inputs.ensures ∙ c.requires.inputs in
    let first : Passed p spec t rule.First = subst (λ (ss : List (List Value)). (i : ℕ) → begins p ss i ≡ true) states (passed_from _ _ c.in_ok-number.ensures c.in_default.not-Some) in
    let inv : Passed p spec t rule.Inv = subst (λ (ss : List (List Value)). (i : ℕ) → stays p ss i ≡ true) states (passed_from _ _ c.in_ok-number-2.ensures c.in_default-2.not-Some) in
    let step : Passed p spec t rule.Step =
    subst (λ (us : List (List Value)). (i : ℕ) → goes_on p (states_told p t) us i ≡ true) inputs
    (subst (λ (ss : List (List Value)). (i : ℕ) → goes_on p ss c.as_slice-inputs.result.now i ≡ true) states (passed_from _ _ c.in_ok-number-3.ensures c.in_default-3.not-Some)) in
    let loop : Passed p spec t rule.Loop = no_loop p spec t c.in_default-start.not-Some in
    let found = subst (IsFirstFailing (ends p spec c.as_slice-states.result.now)) c.in-Some-4.is c.in_ok-number-4.ensures in
    subst (IsReplay p spec t) (sym c.rejected-in-Some-4.ensures)
    (spec_first p spec t c.requires.fit first inv step loop c.in-Some-4.number (subst (λ (ss : List (List Value)). FirstFailing (ends p spec ss) c.in-Some-4.number) states found))
