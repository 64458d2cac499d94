-- What comes of the tests behind that of values.
use Rattle.std.proofs.Common.{◌≡◌, ◌∙◌, ◌-◌, ◌<◌, List, drop, length, sym, subst, ap, arith}
use Rattle.std.proofs.lemmas.List.{length-take-le}
use Rattle.smv_value.specs.declared.value.Value.{Value}
use Rattle.smv_resolve.specs.Items.{item_by}
use Rattle.trace_replay.specs.declared.rule.ReplayRule.TheVariants as rule
use Rattle.trace_replay.specs.Lassos.{IsLassoReplay, is_fair}
use Rattle.trace_replay.specs.Telling.{IsFirstFailing}
use Rattle.trace_replay.specs.Tests.{goes_on}
use Rattle.trace_replay.proofs.OfLassos.{all_of, begin, both_ways, even_told, fair_fails, fair_passes, fault_fails, first_passes, inv_passes, loop_fails, loop_inside, loop_passes, loop_states, more, no_loop_fails, none_from, some_told, spec_fails, spec_passes, step_fails, step_passes}
use Rattle.trace_replay.proofs.OfTests.{passed_from}
use Rattle.trace_replay.proofs.lassos.judge_values.Goals as goal

pub failing_first-requires : goal.failing_first-requires
failing_first-requires c =
    let p = c.args.typed.now.scope.program in
    let t = c.args.trace.now in
    let spec = item_by c.args.typed.now.nodes c.args.spec.now in
    let states = c.as_slice-states.result.now in
    let inputs = c.as_slice-inputs.result.now in
    let ss = c.as_slice-states.ensures ∙ c.requires.states in
    let us = c.as_slice-inputs.ensures ∙ c.requires.inputs in
    some_told p spec t states inputs ss us (c.requires.fit 0)

pub overflow_sub-states : goal.overflow_sub-states
overflow_sub-states c =
    let p = c.args.typed.now.scope.program in
    let t = c.args.trace.now in
    let spec = item_by c.args.typed.now.nodes c.args.spec.now in
    let states = c.as_slice-states.result.now in
    let inputs = c.as_slice-inputs.result.now in
    let ss = c.as_slice-states.ensures ∙ c.requires.states in
    let us = c.as_slice-inputs.ensures ∙ c.requires.inputs in
    let some : 0 < length states = some_told p spec t states inputs ss us (c.requires.fit 0) in
    omega (arith, some)

pub failing_step-requires : goal.failing_step-requires
failing_step-requires c =
    let p = c.args.typed.now.scope.program in
    let t = c.args.trace.now in
    let spec = item_by c.args.typed.now.nodes c.args.spec.now in
    let states = c.as_slice-states.result.now in
    let inputs = c.as_slice-inputs.result.now in
    let ss = c.as_slice-states.ensures ∙ c.requires.states in
    let us = c.as_slice-inputs.ensures ∙ c.requires.inputs in
    let some : 0 < length states = some_told p spec t states inputs ss us (c.requires.fit 0) in
    let even : length states ≡ length inputs = even_told p spec t states inputs ss us in
    let long = length-take-le (length states - 1) inputs (omega (arith, even)) in
    omega (arith, some, even, ap length c.first-between.ensures, long)

pub returns-in-Some-3 : goal.returns-in-Some-3
returns-in-Some-3 c =
    let p = c.args.typed.now.scope.program in
    let t = c.args.trace.now in
    let spec = item_by c.args.typed.now.nodes c.args.spec.now in
    let states = c.as_slice-states.result.now in
    let inputs = c.as_slice-inputs.result.now in
    let ss = c.as_slice-states.ensures ∙ c.requires.states in
    let us = c.as_slice-inputs.ensures ∙ c.requires.inputs in
    let values = more p spec t rule.Values (begin p spec t) c.requires.fit in
    let first = first_passes p spec t states inputs ss us values (passed_from _ _ c.in_ok-number.ensures c.in_default.not-Some) in
    let inv = inv_passes p spec t states inputs ss us first (passed_from _ _ c.in_ok-number-2.ensures c.in_default-2.not-Some) in
    let between = c.first-between.result.now in
    let few = c.first-between.ensures in
    subst (IsLassoReplay p spec t) (sym c.rejected-in-Some-3.ensures)
    (step_fails p spec t states inputs ss us between few inv c.in-Some-3.number (subst (IsFirstFailing (goes_on p states between)) c.in-Some-3.is c.in_ok-number-3.ensures))

pub returns-in_default-start : goal.returns-in_default-start
returns-in_default-start c =
    let p = c.args.typed.now.scope.program in
    let t = c.args.trace.now in
    let spec = item_by c.args.typed.now.nodes c.args.spec.now in
    let states = c.as_slice-states.result.now in
    let inputs = c.as_slice-inputs.result.now in
    let ss = c.as_slice-states.ensures ∙ c.requires.states in
    let us = c.as_slice-inputs.ensures ∙ c.requires.inputs in
    let values = more p spec t rule.Values (begin p spec t) c.requires.fit in
    let first = first_passes p spec t states inputs ss us values (passed_from _ _ c.in_ok-number.ensures c.in_default.not-Some) in
    let inv = inv_passes p spec t states inputs ss us first (passed_from _ _ c.in_ok-number-2.ensures c.in_default-2.not-Some) in
    let between = c.first-between.result.now in
    let few = c.first-between.ensures in
    let step = step_passes p spec t states inputs ss us between few inv (passed_from _ _ c.in_ok-number-3.ensures c.in_default-3.not-Some) in
    subst (IsLassoReplay p spec t) (sym c.rejected-in_default-start.ensures)
    (no_loop_fails p spec t states inputs ss us step (none_from t.start c.in_default-start.not-Some))

pub is_loop-requires-clause-some : goal.is_loop-requires-clause-some
is_loop-requires-clause-some c =
    let p = c.args.typed.now.scope.program in
    let t = c.args.trace.now in
    let spec = item_by c.args.typed.now.nodes c.args.spec.now in
    let states = c.as_slice-states.result.now in
    let inputs = c.as_slice-inputs.result.now in
    let ss = c.as_slice-states.ensures ∙ c.requires.states in
    let us = c.as_slice-inputs.ensures ∙ c.requires.inputs in
    some_told p spec t states inputs ss us (c.requires.fit 0)

pub is_loop-requires-clause-long : goal.is_loop-requires-clause-long
is_loop-requires-clause-long c =
    let p = c.args.typed.now.scope.program in
    let t = c.args.trace.now in
    let spec = item_by c.args.typed.now.nodes c.args.spec.now in
    let states = c.as_slice-states.result.now in
    let inputs = c.as_slice-inputs.result.now in
    let ss = c.as_slice-states.ensures ∙ c.requires.states in
    let us = c.as_slice-inputs.ensures ∙ c.requires.inputs in
    even_told p spec t states inputs ss us

pub returns-then-not-branch : goal.returns-then-not-branch
returns-then-not-branch c =
    let p = c.args.typed.now.scope.program in
    let t = c.args.trace.now in
    let spec = item_by c.args.typed.now.nodes c.args.spec.now in
    let states = c.as_slice-states.result.now in
    let inputs = c.as_slice-inputs.result.now in
    let ss = c.as_slice-states.ensures ∙ c.requires.states in
    let us = c.as_slice-inputs.ensures ∙ c.requires.inputs in
    let values = more p spec t rule.Values (begin p spec t) c.requires.fit in
    let first = first_passes p spec t states inputs ss us values (passed_from _ _ c.in_ok-number.ensures c.in_default.not-Some) in
    let inv = inv_passes p spec t states inputs ss us first (passed_from _ _ c.in_ok-number-2.ensures c.in_default-2.not-Some) in
    let between = c.first-between.result.now in
    let few = c.first-between.ensures in
    let step = step_passes p spec t states inputs ss us between few inv (passed_from _ _ c.in_ok-number-3.ensures c.in_default-3.not-Some) in
    let start = c.in-Some-start.start in
    let at = c.in-Some-start.is in
    subst (IsLassoReplay p spec t) (sym c.rejected-then-not-branch.ensures)
    (loop_fails p spec t states inputs ss us start at step (sym c.in_ok-is_loop.ensures ∙ c.if-not-branch.true))

pub returns-in-Some-4 : goal.returns-in-Some-4
returns-in-Some-4 c =
    let p = c.args.typed.now.scope.program in
    let t = c.args.trace.now in
    let spec = item_by c.args.typed.now.nodes c.args.spec.now in
    let states = c.as_slice-states.result.now in
    let inputs = c.as_slice-inputs.result.now in
    let ss = c.as_slice-states.ensures ∙ c.requires.states in
    let us = c.as_slice-inputs.ensures ∙ c.requires.inputs in
    let values = more p spec t rule.Values (begin p spec t) c.requires.fit in
    let first = first_passes p spec t states inputs ss us values (passed_from _ _ c.in_ok-number.ensures c.in_default.not-Some) in
    let inv = inv_passes p spec t states inputs ss us first (passed_from _ _ c.in_ok-number-2.ensures c.in_default-2.not-Some) in
    let between = c.first-between.result.now in
    let few = c.first-between.ensures in
    let step = step_passes p spec t states inputs ss us between few inv (passed_from _ _ c.in_ok-number-3.ensures c.in_default-3.not-Some) in
    let start = c.in-Some-start.start in
    let at = c.in-Some-start.is in
    let so = sym c.in_ok-is_loop.ensures ∙ c.if-not-branch.false in
    let rest = c.last-in_loop.ensures ∙ loop_states states start (loop_inside p states inputs start so) in
    let loop = loop_passes p spec t states inputs ss us start at step so in
    let found = subst (λ (ls : List (List Value)). IsFirstFailing (is_fair p ls) c.in_ok-number-4.field-0) rest c.in_ok-number-4.ensures in
    subst (IsLassoReplay p spec t) (sym c.rejected-in-Some-4.ensures)
    (fair_fails p spec t states inputs ss us start at loop c.in-Some-4.number (subst (IsFirstFailing (is_fair p (drop start states))) c.in-Some-4.is found))

pub holds_at_first-requires-clause-long : goal.holds_at_first-requires-clause-long
holds_at_first-requires-clause-long c =
    let p = c.args.typed.now.scope.program in
    let t = c.args.trace.now in
    let spec = item_by c.args.typed.now.nodes c.args.spec.now in
    let states = c.as_slice-states.result.now in
    let inputs = c.as_slice-inputs.result.now in
    let ss = c.as_slice-states.ensures ∙ c.requires.states in
    let us = c.as_slice-inputs.ensures ∙ c.requires.inputs in
    even_told p spec t states inputs ss us

pub returns-in-Some-5 : goal.returns-in-Some-5
returns-in-Some-5 c =
    let p = c.args.typed.now.scope.program in
    let t = c.args.trace.now in
    let spec = item_by c.args.typed.now.nodes c.args.spec.now in
    let states = c.as_slice-states.result.now in
    let inputs = c.as_slice-inputs.result.now in
    let ss = c.as_slice-states.ensures ∙ c.requires.states in
    let us = c.as_slice-inputs.ensures ∙ c.requires.inputs in
    let values = more p spec t rule.Values (begin p spec t) c.requires.fit in
    let first = first_passes p spec t states inputs ss us values (passed_from _ _ c.in_ok-number.ensures c.in_default.not-Some) in
    let inv = inv_passes p spec t states inputs ss us first (passed_from _ _ c.in_ok-number-2.ensures c.in_default-2.not-Some) in
    let between = c.first-between.result.now in
    let few = c.first-between.ensures in
    let step = step_passes p spec t states inputs ss us between few inv (passed_from _ _ c.in_ok-number-3.ensures c.in_default-3.not-Some) in
    let start = c.in-Some-start.start in
    let at = c.in-Some-start.is in
    let so = sym c.in_ok-is_loop.ensures ∙ c.if-not-branch.false in
    let rest = c.last-in_loop.ensures ∙ loop_states states start (loop_inside p states inputs start so) in
    let loop = loop_passes p spec t states inputs ss us start at step so in
    let found = subst (λ (ls : List (List Value)). IsFirstFailing (is_fair p ls) c.in_ok-number-4.field-0) rest c.in_ok-number-4.ensures in
    let fair = fair_passes p spec t states inputs ss us start at loop (passed_from (is_fair p (drop start states)) c.in_ok-number-4.field-0 found c.in_default-4.not-Some) in
    subst (IsLassoReplay p spec t) (sym c.rejected-in-Some-5.ensures)
    (fault_fails p spec t states inputs ss us start at fair _ c.in-Some-5.field-0 c.in_ok-failing_time.ensures c.in-Some-5.is)

pub failing_time-requires : goal.failing_time-requires
failing_time-requires c =
    let p = c.args.typed.now.scope.program in
    let t = c.args.trace.now in
    let spec = item_by c.args.typed.now.nodes c.args.spec.now in
    let states = c.as_slice-states.result.now in
    let inputs = c.as_slice-inputs.result.now in
    let ss = c.as_slice-states.ensures ∙ c.requires.states in
    let us = c.as_slice-inputs.ensures ∙ c.requires.inputs in
    even_told p spec t states inputs ss us

pub returns-then-branch : goal.returns-then-branch
returns-then-branch c =
    let p = c.args.typed.now.scope.program in
    let t = c.args.trace.now in
    let spec = item_by c.args.typed.now.nodes c.args.spec.now in
    let states = c.as_slice-states.result.now in
    let inputs = c.as_slice-inputs.result.now in
    let ss = c.as_slice-states.ensures ∙ c.requires.states in
    let us = c.as_slice-inputs.ensures ∙ c.requires.inputs in
    let values = more p spec t rule.Values (begin p spec t) c.requires.fit in
    let first = first_passes p spec t states inputs ss us values (passed_from _ _ c.in_ok-number.ensures c.in_default.not-Some) in
    let inv = inv_passes p spec t states inputs ss us first (passed_from _ _ c.in_ok-number-2.ensures c.in_default-2.not-Some) in
    let between = c.first-between.result.now in
    let few = c.first-between.ensures in
    let step = step_passes p spec t states inputs ss us between few inv (passed_from _ _ c.in_ok-number-3.ensures c.in_default-3.not-Some) in
    let start = c.in-Some-start.start in
    let at = c.in-Some-start.is in
    let so = sym c.in_ok-is_loop.ensures ∙ c.if-not-branch.false in
    let rest = c.last-in_loop.ensures ∙ loop_states states start (loop_inside p states inputs start so) in
    let loop = loop_passes p spec t states inputs ss us start at step so in
    let found = subst (λ (ls : List (List Value)). IsFirstFailing (is_fair p ls) c.in_ok-number-4.field-0) rest c.in_ok-number-4.ensures in
    let fair = fair_passes p spec t states inputs ss us start at loop (passed_from (is_fair p (drop start states)) c.in_ok-number-4.field-0 found c.in_default-4.not-Some) in
    subst (IsLassoReplay p spec t) (sym c.rejected-then-branch.ensures)
    (spec_fails p spec t states inputs ss us start at fair (c.in_ok-holds_at_first.ensures.0 c.if-branch.true))

pub returns : goal.returns
returns c =
    let p = c.args.typed.now.scope.program in
    let t = c.args.trace.now in
    let spec = item_by c.args.typed.now.nodes c.args.spec.now in
    let states = c.as_slice-states.result.now in
    let inputs = c.as_slice-inputs.result.now in
    let ss = c.as_slice-states.ensures ∙ c.requires.states in
    let us = c.as_slice-inputs.ensures ∙ c.requires.inputs in
    let values = more p spec t rule.Values (begin p spec t) c.requires.fit in
    let first = first_passes p spec t states inputs ss us values (passed_from _ _ c.in_ok-number.ensures c.in_default.not-Some) in
    let inv = inv_passes p spec t states inputs ss us first (passed_from _ _ c.in_ok-number-2.ensures c.in_default-2.not-Some) in
    let between = c.first-between.result.now in
    let few = c.first-between.ensures in
    let step = step_passes p spec t states inputs ss us between few inv (passed_from _ _ c.in_ok-number-3.ensures c.in_default-3.not-Some) in
    let start = c.in-Some-start.start in
    let at = c.in-Some-start.is in
    let so = sym c.in_ok-is_loop.ensures ∙ c.if-not-branch.false in
    let rest = c.last-in_loop.ensures ∙ loop_states states start (loop_inside p states inputs start so) in
    let loop = loop_passes p spec t states inputs ss us start at step so in
    let found = subst (λ (ls : List (List Value)). IsFirstFailing (is_fair p ls) c.in_ok-number-4.field-0) rest c.in_ok-number-4.ensures in
    let fair = fair_passes p spec t states inputs ss us start at loop (passed_from (is_fair p (drop start states)) c.in_ok-number-4.field-0 found c.in_default-4.not-Some) in
    all_of p spec t
    (spec_passes p spec t states inputs ss us start at fair (passed_from _ _ c.in_ok-failing_time.ensures c.in_default-5.not-Some) (λ h. both_ways _ c.if-branch.false (c.in_ok-holds_at_first.ensures.1 h)))
