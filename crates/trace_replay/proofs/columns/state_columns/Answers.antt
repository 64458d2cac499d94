-- They are those of the slots.
use Rattle.std.proofs.Common.{◌≡◌, ◌∙◌, List, IfOk, map, ap, subst}
use Rattle.smv_slots.specs.declared.slot.Slot.{Slot}
use Rattle.smv_meaning.specs.Runs.{state_slots}
use Rattle.trace_replay.specs.declared.columns.Column.{Column}
use Rattle.trace_replay.specs.Rows.{column_of, state_columns}
use Rattle.trace_replay.proofs.columns.state_columns.Goals as goal

pub returns : goal.returns
unfolding state_columns
returns c =
    let p = c.args.typed.now.scope.program in
    subst (λ (slots : List Slot). IfOk c.columns_of.result (λ (columns : List Column). columns ≡ map (column_of p) slots))
    (c.as_slice-2.ensures ∙ c.in_ok-slots.ensures ∙ ap state_slots (c.as_slice.ensures ∙ c.args.typed.now.laid_out))
    c.columns_of.ensures
