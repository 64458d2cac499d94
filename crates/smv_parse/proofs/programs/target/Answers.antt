use Rattle.std.proofs.Common.{sym, ◌∙◌, refl}
use Rattle.std.proofs.lemmas.Result.{err_from_is_err_and}
use Rattle.smv_phrases.proofs.Folds.{fold_ends}
use Rattle.smv_expressions.specs.Expressions.{selected_by, selected_by_all, index_within}
use Rattle.smv_expressions.proofs.Loops.{selections_gather, step_on, step_shortens, step_stops}
use Rattle.smv_parse.proofs.OfLoops.{name_stops, placed_stops, placed_on, placed_ends, indices, index_begins, target_begins}
use Rattle.smv_parse.proofs.programs.target.Goals as goal

pub returns-in_err-name : goal.returns-in_err-name
returns-in_err-name c =
    let p = err_from_is_err_and c.from_residual.result c.from_residual.ensures.1 in
    rw (p.1, p.2) (name_stops c.in_err-name.field-0.0 c.args.room c.args.tokens.now c.in_err-name.ensures)

pub indices-init : goal.indices-init
indices-init c = rw c.place_of-place.ensures (target_begins c.args.room c.args.tokens.now c.in_ok-name.name c.in_ok-name.tokens.now c.in_ok-name.ensures)

pub returns-in_err-more : goal.returns-in_err-more
returns-in_err-more c =
    let p = err_from_is_err_and c.from_residual-in_err-more.result c.from_residual-in_err-more.ensures.1 in
    rw (p.1, p.2)
    (placed_stops c.in_err-more.field-0.0 _ _ _
    (step_stops (index_within 0 c.args.room) (indices c.args.room) selected_by_all selected_by selections_gather c.in_err-more.field-0.0 c.indices.whole c.indices.rest.now _ (sym c.indices-test.true ∙ c.begins.ensures ∙ index_begins c.args.room c.indices.rest.now) c.in_err-more.ensures refl)
    c.indices.invariant)

pub indices-smaller : goal.indices-smaller
indices-smaller c = step_shortens (index_within 0 c.args.room) (indices c.args.room) selected_by_all selected_by selections_gather c.indices.whole c.indices.rest.now c.in_ok-more.more c.in_ok-more.after.now c.in_ok-more.ensures

pub indices-preserved : goal.indices-preserved
indices-preserved c =
    placed_on _ _ _ _
    (step_on (index_within 0 c.args.room) (indices c.args.room) selected_by_all selected_by selections_gather c.indices.whole c.indices.rest.now c.in_ok-more.more c.in_ok-more.after.now _ (sym c.indices-test.true ∙ c.begins.ensures ∙ index_begins c.args.room c.indices.rest.now) c.in_ok-more.ensures refl)
    c.indices.invariant

pub returns : goal.returns
returns c =
    placed_ends _ _ _ _ _
    (fold_ends (index_within 0 c.args.room) (indices c.args.room) selected_by_all selected_by selections_gather c.indices.whole c.indices.rest.now _ (sym c.indices-test.false ∙ c.begins.ensures ∙ index_begins c.args.room c.indices.rest.now) refl)
    c.indices.invariant
