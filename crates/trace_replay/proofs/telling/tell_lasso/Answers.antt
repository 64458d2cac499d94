-- The values of one more number, and of all numbers.
use Rattle.std.proofs.Common.{◌≡◌, ◌∙◌, inl, inr, ◌<◌, ◌≤◌, ℕ, Some, [], max, length, map, below_more, sym, subst, ap, arith, unwrap_or, true}
use Rattle.std.specs.List.{range_with_len}
use Rattle.std.proofs.lemmas.Bool.{cases_lt}
use Rattle.std.proofs.lemmas.List.{take_all}
use Rattle.trace_replay.specs.Lassos.{AreEachInputs, each_value_fits}
use Rattle.trace_replay.specs.Rows.{inputs_read, state_columns, state_read, terms_of}
use Rattle.trace_replay.specs.Telling.{FirstFailing}
use Rattle.trace_replay.proofs.OfTelling.{row_told, rows_more}
use Rattle.trace_replay.proofs.OfLassos.{each_fails_past, each_fits_here, each_fits_past, each_more, some_each}
use Rattle.trace_replay.proofs.telling.tell_lasso.Goals as goal

pub loop-i-preserved : goal.loop-i-preserved
loop-i-preserved c =
    let p = c.args.typed.now.scope.program in
    let t = c.args.trace.now in
    let i = c.loop-i.i in
    let told : state_read p t i ≡ Some c.in-Some.state = sym c.in_ok-state.ensures ∙ c.in-Some.is in
    let given = subst (AreEachInputs p t i) c.in-Some-2.is c.in_ok-given-2.ensures in
    record {
      fit = below_more (λ j. each_value_fits p t j ≡ true) i c.loop-i.invariant.fit (each_fits_here p t i c.in-Some.state told given.0);
      states = c.in_ok-push.ensures.items ∙ rows_more (terms_of p) (state_columns p) t.states c.loop-i.states.items i c.in-Some.state told c.loop-i.invariant.states;
      inputs = each_more (λ (j : ℕ). unwrap_or (inputs_read p t j) []) c.loop-i.inputs.items _ i c.in-Some-2.given c.in_ok-push-2.ensures.items c.loop-i.invariant.inputs given.1;
    }

pub returns-then-len-rows : goal.returns-then-len-rows
returns-then-len-rows c =
    let p = c.args.typed.now.scope.program in
    let t = c.args.trace.now in
    let rows = ap length c.as_slice-rows.ensures in
    let end : max 1 (length t.states) ≤ c.loop-i.i = omega (arith, c.loop-i-test.false, c.max-i-end.ensures, rows) in
    let fit : (j : ℕ) → j < max 1 (length t.states) → each_value_fits p t j ≡ true = λ j h. c.loop-i.invariant.fit j (omega (arith, h, end)) in
    let some = some_each p t (fit 0 (omega arith)) in
    let many : length t.states < length t.inputs = omega (arith, rows) in
    subst (FirstFailing (each_value_fits p t)) (sym rows) (each_fails_past p t fit some many)

pub returns : goal.returns
returns c =
    let p = c.args.typed.now.scope.program in
    let t = c.args.trace.now in
    let i = c.loop-i.i in
    let rows = ap length c.as_slice-rows.ensures in
    let end : max 1 (length t.states) ≤ c.loop-i.i = omega (arith, c.loop-i-test.false, c.max-i-end.ensures, rows) in
    let few : length t.inputs ≤ length t.states = omega (arith, rows) in
    let fit : (j : ℕ) → each_value_fits p t j ≡ true = λ j. elim (cases_lt j c.loop-i.i) [ inl h ↦ c.loop-i.invariant.fit j h | inr h ↦ each_fits_past p t few j (omega (arith, h, end)) ] in
    let some : 0 < length t.states = some_each p t (fit 0) in
    let exact : c.loop-i.i ≡ length t.states = omega (arith, end, some, c.max-i-end.ensures, rows, c.loop-i.auto.i-end) in
    let all : length t.states ≤ c.loop-i.i = omega (arith, end) in
    record {
      fit = fit;
      states = c.from_vec.ensures ∙ c.loop-i.invariant.states ∙ ap (map (row_told (terms_of p) (state_columns p))) (take_all i t.states all);
      inputs = c.from_vec-2.ensures ∙ c.loop-i.invariant.inputs ∙ ap (λ n. map (λ (j : ℕ). unwrap_or (inputs_read p t j) []) (range_with_len 0 n)) exact;
    }
