-- The values of one more number, and of all numbers.
use Rattle.std.proofs.Common.{◌≡◌, ◌∙◌, inl, inr, ◌<◌, ◌≤◌, ◌-◌, ℕ, Some, [], max, min, length, map, below_more, sym, subst, ap, arith, unwrap_or, true}
use Rattle.std.specs.List.{range_with_len}
use Rattle.std.proofs.lemmas.Bool.{cases_lt}
use Rattle.std.proofs.lemmas.List.{take_all}
use Rattle.trace_replay.specs.Rows.{inputs_read, state_columns, state_read, terms_of}
use Rattle.trace_replay.specs.Telling.{AreInputs}
use Rattle.trace_replay.specs.Tests.{values_fit}
use Rattle.trace_replay.proofs.OfTelling.{fits_here, fits_past, numbers_more, numbers_same, row_told, rows_more, some_state}
use Rattle.trace_replay.proofs.telling.tell.Goals as goal
use Rattle.trace_replay.proofs.telling.tell.Goals.{then-i-rows+in_ok-push-2, else-i-rows}

pub loop-i-preserved : goal.loop-i-preserved
loop-i-preserved c =
    let p = c.args.typed.now.scope.program in
    let t = c.args.trace.now in
    let i = c.loop-i.i in
    let told : state_read p t i ≡ Some c.in-Some.state = sym c.in_ok-state.ensures ∙ c.in-Some.is in
    let given = subst (AreInputs p t i) c.in-Some-2.is c.in_ok-given-2.ensures in
    record {
      fit = below_more (λ j. values_fit p t j ≡ true) i c.loop-i.invariant.fit (fits_here p t i c.in-Some.state told given.0);
      states = c.in_ok-push.ensures.items ∙ rows_more (terms_of p) (state_columns p) t.states c.loop-i.states.items i c.in-Some.state told c.loop-i.invariant.states;
      inputs = elim c.if-i-rows.branch [
        | then-i-rows+in_ok-push-2 w ↦ numbers_more (λ (j : ℕ). unwrap_or (inputs_read p t j) []) c.loop-i.inputs.items c.if-i-rows.inputs.items i (length t.states - 1) c.in-Some-2.given (ap (λ v. v.items) w.inputs-is ∙ w.in_ok-push-2.ensures.items) c.loop-i.invariant.inputs given.1 (omega (arith, w.if-i-rows.true, ap length c.as_slice-rows.ensures))
        | else-i-rows w ↦ numbers_same (λ (j : ℕ). unwrap_or (inputs_read p t j) []) c.loop-i.inputs.items c.if-i-rows.inputs.items i (length t.states - 1) (ap (λ v. v.items) w.inputs-is) c.loop-i.invariant.inputs (omega (arith, w.if-i-rows.false, ap length c.as_slice-rows.ensures))
      ];
    }

pub returns : goal.returns
returns c =
    let p = c.args.typed.now.scope.program in
    let t = c.args.trace.now in
    let i = c.loop-i.i in
    let end : max 1 (length t.states) ≤ i = omega (arith, c.loop-i-test.false, c.max-i-end.ensures, ap length c.as_slice-rows.ensures) in
    let fit : (j : ℕ) → values_fit p t j ≡ true = λ j. elim (cases_lt j i) [ inl h ↦ c.loop-i.invariant.fit j h | inr h ↦ fits_past p t j (omega arith) ] in
    let some : 0 < length t.states = some_state p t (fit 0) in
    let all : length t.states ≤ i = omega arith in
    let steps : min i (length t.states - 1) ≡ length t.states - 1 = omega arith in
    record {
      fit = fit;
      states = c.from_vec.ensures ∙ c.loop-i.invariant.states ∙ ap (map (row_told (terms_of p) (state_columns p))) (take_all i t.states all);
      inputs = c.from_vec-2.ensures ∙ c.loop-i.invariant.inputs ∙ ap (λ n. map (λ (j : ℕ). unwrap_or (inputs_read p t j) []) (range_with_len 0 n)) steps;
    }
