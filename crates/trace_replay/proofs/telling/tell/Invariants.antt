-- The values of all numbers so far are told as they should be.
use Rattle.std.proofs.Common.{◌≡◌, ◌<◌, ◌-◌, ℕ, List, [], map, min, length, take, true, unwrap_or}
use Rattle.std.specs.List.{range_with_len}
use Rattle.trace_replay.specs.declared.entry.Binding.{Binding}
use Rattle.trace_replay.specs.Rows.{inputs_read, row_read, state_columns, terms_of}
use Rattle.trace_replay.specs.Tests.{values_fit}
use Rattle.trace_replay.proofs.telling.tell.Given as goal

abbrev pub invariant-loop-i : goal.invariant-loop-i
invariant-loop-i l = record {
  fit : (j : ℕ) → j < l.i → values_fit l.typed.scope.program l.trace j ≡ true;
  states : l.states.items ≡ map (λ (bs : List Binding). unwrap_or (row_read (terms_of l.typed.scope.program) (state_columns l.typed.scope.program) bs) []) (take l.i l.trace.states);
  inputs : l.inputs.items ≡ map (λ (j : ℕ). unwrap_or (inputs_read l.typed.scope.program l.trace j) []) (range_with_len 0 (min l.i (length l.trace.states - 1)));
}
