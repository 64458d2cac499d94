-- The slot of a variable that is no array, and an array.
use Rattle.std.proofs.Common.{Option, ℕ, ap, ◌≡◌, ◌<◌, ◌≤◌, length, ◌∙◌, arith, sym}
use Rattle.std.proofs.lemmas.Option.{slice_get_within}
use Rattle.smv_resolve.specs.Resolved.{Resolved}
use Rattle.smv_declared.specs.declared.variable_type.VariableType.{VariableType}
use Rattle.smv_slots.specs.Slots.{first_slot}
use Rattle.smv_layout.specs.Layout.{Laid, array_of, slot_laid}
use Rattle.smv_layout.proofs.Indexing.{first_found}
use Rattle.smv_layout.proofs.Standing.{laid_along, variable_array, variable_bare}
use Rattle.smv_layout.proofs.expressions.lay_out_variable.Goals as goal

pub returns-in-empty-clause-laid : goal.returns-in-empty-clause-laid
returns-in-empty-clause-laid c =
    let vs = c.args.variables.now in
    let first : c.first_at.result ≡ first_slot vs c.args.n =
    c.first_at.ensures ∙ first_found vs c.args.firsts.now c.args.n c.requires.firsts (slice_get_within vs c.args.n c.in-Some.variable.now (sym c.in-Some.ensures)) in
    let bare : length c.in-Some.variable.now.dimensions < 1 = omega (arith, c.in-empty.len_below, ap length c.as_slice.ensures) in
    laid_along c.push_value-in-empty.new.nodes c.push_value-in-empty.result (Laid.Value (Resolved.Slot c.args.place c.first_at.result)) _
    (ap (λ (k : ℕ). Laid.Value (Resolved.Slot c.args.place k)) first ∙ variable_bare (first_slot vs c.args.n) c.args.place c.args.n c.in-Some.variable.now.dimensions bare
    ∙ ap (λ (o : Option VariableType). slot_laid vs c.args.place c.args.n o) c.in-Some.ensures)
    c.push_value-in-empty.ensures.laid

pub returns-in_default-clause-laid : goal.returns-in_default-clause-laid
returns-in_default-clause-laid c =
    let vs = c.args.variables.now in
    let first : c.first_at-in_default.result ≡ first_slot vs c.args.n =
    c.first_at-in_default.ensures ∙ first_found vs c.args.firsts.now c.args.n c.requires.firsts (slice_get_within vs c.args.n c.in-Some.variable.now (sym c.in-Some.ensures)) in
    let some : 1 ≤ length c.in-Some.variable.now.dimensions = omega (arith, c.in_default.len_at_least, ap length c.as_slice.ensures) in
    laid_along c.push_array.new.nodes c.push_array.result (Laid.Array (array_of c.first_at-in_default.result c.args.place c.args.n)) _
    (ap (λ (k : ℕ). Laid.Array (array_of k c.args.place c.args.n)) first ∙ variable_array (first_slot vs c.args.n) c.args.place c.args.n c.in-Some.variable.now.dimensions some
    ∙ ap (λ (o : Option VariableType). slot_laid vs c.args.place c.args.n o) c.in-Some.ensures)
    c.push_array.ensures.laid
