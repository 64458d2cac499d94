-- What is read between two tokens is what its form reads; each loop keeps that what it read and what it still reads is
-- all.
use Rattle.std.proofs.Common.{◌-◌, List, sym, ◌∙◌}
use Rattle.std.proofs.lemmas.Result.{err_from_is_err_and}
use Rattle.smv_tree.specs.declared.token.Token.{Token}
use Rattle.smv_tree.specs.declared.token.TokenKind.TheVariants as kind
use Rattle.smv_tree.specs.declared.tree.Expr.{Expr}
use Rattle.smv_tree.specs.Kinds.{is_kind}
use Rattle.smv_phrases.specs.Lists.{further, listed}
use Rattle.smv_phrases.proofs.OfNames.{begins_same}
use Rattle.smv_phrases.proofs.Repeats.{loop_on, loop_ends, loop_stops, loop_shortens}
use Rattle.smv_phrases.proofs.Folds.{fold_on, fold_ends, fold_stops}
use Rattle.smv_expressions.specs.Expressions.{set_of, turns, case_of, conditional, branch, selection, selected_by, selected_by_all, is_zero, under, expression_within, limit_within}
use Rattle.smv_expressions.proofs.Levels.{under_expression, under_listed, under_turns, under_limit, selected_inner, under_selected, chosen_inner, under_choices}
use Rattle.smv_expressions.proofs.Enclosed.{pair_reads, reads, stops, behind_reads, behind_stops}
use Rattle.smv_expressions.proofs.Loops.{expressions, branches, branch_begins, with_turns, with_turn, turns_gather, selections, selections_gather, selection_begins, step_on, step_shortens, step_stops}
use Rattle.smv_expressions.proofs.Links.{links_go_on, links_end, links_stop}
use Rattle.smv_expressions.proofs.expressions.+expressions.Goals as goal

pub arguments-returns : goal.arguments-returns
arguments-returns t c =
    reads c.is_closed.result c.args.room kind.LeftParen kind.RightParen (listed (under 0 c.args.room).expression) (listed (expression_within 0 (c.args.room - 1))) (under_listed c.args.room) (λ (x : Token × List Expr). x.1)
    c.args.tokens.now _ _ _ _ _ _ c.is_closed.ensures c.in_ok-tokens.ensures c.in_ok-all.ensures c.in_ok-tokens-2.ensures

pub parenthesised-returns : goal.parenthesised-returns
parenthesised-returns t c =
    pair_reads c.is_closed.result c.args.room kind.LeftParen kind.RightParen (under 0 c.args.room).expression (expression_within 0 (c.args.room - 1)) (under_expression c.args.room)
    c.args.tokens.now _ _ _ _ _ _ c.is_closed.ensures c.in_ok-parenthesis.ensures c.in_ok-inner.ensures c.in_ok-tokens.ensures

pub set-returns : goal.set-returns
set-returns t c =
    rw c.over_all.ensures
    (reads c.is_closed.result c.args.room kind.LeftBrace kind.RightBrace (listed (under 0 c.args.room).expression) (listed (expression_within 0 (c.args.room - 1))) (under_listed c.args.room) set_of
    c.args.tokens.now _ _ _ _ _ _ c.is_closed.ensures c.in_ok-brace.ensures c.in_ok-all.ensures c.in_ok-tokens.ensures)

pub case-returns : goal.case-returns
case-returns t c =
    rw c.over_all.ensures
    (reads c.is_closed.result c.args.room kind.Case kind.Esac (turns (under 0 c.args.room).expression) (turns (expression_within 0 (c.args.room - 1))) (under_turns c.args.room) case_of
    c.args.tokens.now _ _ _ _ _ _ c.is_closed.ensures c.in_ok-case.ensures c.in_ok-all.ensures c.in_ok-tokens.ensures)

pub case-returns-in_err-tokens : goal.case-returns-in_err-tokens
case-returns-in_err-tokens t c =
    let p = err_from_is_err_and c.from_residual-in_err-tokens.result c.from_residual-in_err-tokens.ensures.1 in
    rw (p.1, p.2)
    (stops c.is_closed.result c.args.room kind.Case kind.Esac (turns (under 0 c.args.room).expression) (turns (expression_within 0 (c.args.room - 1))) (under_turns c.args.room) case_of
    c.in_err-tokens.field-0.0 c.args.tokens.now _ _ _ _ c.is_closed.ensures c.in_ok-case.ensures c.in_ok-all.ensures c.in_err-tokens.ensures)

pub limit_parenthesised-returns : goal.limit_parenthesised-returns
limit_parenthesised-returns t c =
    pair_reads c.is_closed.result c.args.room kind.LeftParen kind.RightParen (under 0 c.args.room).limit (limit_within 0 (c.args.room - 1)) (under_limit c.args.room)
    c.args.tokens.now _ _ _ _ _ _ c.is_closed.ensures c.in_ok-parenthesis.ensures c.in_ok-inner.ensures c.in_ok-tokens.ensures

pub choices-returns-in_err-first : goal.choices-returns-in_err-first
choices-returns-in_err-first t c =
    let p = err_from_is_err_and c.from_residual-in_err-first.result c.from_residual-in_err-first.ensures.1 in
    rw (p.1, p.2)
    (behind_stops c.is_closed.result c.args.room kind.Question (chosen_inner (under 0 c.args.room).expression (under 0 c.args.room).conditional) (chosen_inner (expression_within 0 (c.args.room - 1)) (conditional (is_zero (c.args.room - 1)) (under 0 (c.args.room - 1)))) (under_choices c.args.room) c.args.tokens.now _ _ c.is_closed.ensures c.in_ok-question.ensures c.in_err-first.field-0.0 c.in_err-first.ensures)

pub choices-returns : goal.choices-returns
choices-returns t c =
    behind_reads c.is_closed.result c.args.room kind.Question (chosen_inner (under 0 c.args.room).expression (under 0 c.args.room).conditional) (chosen_inner (expression_within 0 (c.args.room - 1)) (conditional (is_zero (c.args.room - 1)) (under 0 (c.args.room - 1)))) (under_choices c.args.room) c.args.tokens.now _ _ c.is_closed.ensures c.in_ok-question.ensures _ _ c.in_ok-first.ensures

pub right_side-returns-in_err-right : goal.right_side-returns-in_err-right
right_side-returns-in_err-right t c =
    let p = err_from_is_err_and c.from_residual-in_err-right.result c.from_residual-in_err-right.ensures.1 in
    rw (p.1, p.2)
    (behind_stops c.is_closed.result c.args.room kind.Implies (under 0 c.args.room).expression (expression_within 0 (c.args.room - 1)) (under_expression c.args.room) c.args.tokens.now _ _ c.is_closed.ensures c.in_ok-arrow.ensures c.in_err-right.field-0.0 c.in_err-right.ensures)

pub right_side-returns : goal.right_side-returns
right_side-returns t c =
    behind_reads c.is_closed.result c.args.room kind.Implies (under 0 c.args.room).expression (expression_within 0 (c.args.room - 1)) (under_expression c.args.room) c.args.tokens.now _ _ c.is_closed.ensures c.in_ok-arrow.ensures _ _ c.in_ok-right.ensures

pub selection-returns-in_err-first : goal.selection-returns-in_err-first
selection-returns-in_err-first t c =
    let p = err_from_is_err_and c.from_residual-in_err-first.result c.from_residual-in_err-first.ensures.1 in
    rw (p.1, p.2)
    (behind_stops c.is_closed.result c.args.room kind.LeftBracket (selected_inner (under 0 c.args.room).expression) (selected_inner (expression_within 0 (c.args.room - 1))) (under_selected c.args.room) c.args.tokens.now _ _ c.is_closed.ensures c.in_ok-bracket.ensures c.in_err-first.field-0.0 c.in_err-first.ensures)

pub selection-returns : goal.selection-returns
selection-returns t c =
    behind_reads c.is_closed.result c.args.room kind.LeftBracket (selected_inner (under 0 c.args.room).expression) (selected_inner (expression_within 0 (c.args.room - 1))) (under_selected c.args.room) c.args.tokens.now _ _ c.is_closed.ensures c.in_ok-bracket.ensures _ _ c.in_ok-first.ensures

pub listed-returns-in_err-more : goal.listed-returns-in_err-more
listed-returns-in_err-more t c =
    let p = err_from_is_err_and c.from_residual-in_err-more.result c.from_residual-in_err-more.ensures.1 in
    rw (p.1, p.2)
    (loop_stops (further (expression_within 0 c.args.room)) (expressions c.args.room) c.in_err-more.field-0.0 c.phrases.all c.phrases.rest.now _ (sym c.phrases-test.true ∙ c.begins.ensures ∙ begins_same (is_kind kind.Comma) c.phrases.rest.now) c.in_err-more.ensures c.phrases.invariant)

pub listed-phrases-smaller : goal.listed-phrases-smaller
listed-phrases-smaller t c = loop_shortens (further (expression_within 0 c.args.room)) (expressions c.args.room) c.phrases.rest.now c.in_ok-more.more c.in_ok-more.after.now c.in_ok-more.ensures

pub listed-phrases-preserved : goal.listed-phrases-preserved
listed-phrases-preserved t c =
    rw c.in_ok-push.ensures.ok (loop_on (further (expression_within 0 c.args.room)) (expressions c.args.room) c.phrases.all c.phrases.rest.now c.in_ok-more.more c.in_ok-more.after.now _ (sym c.phrases-test.true ∙ c.begins.ensures ∙ begins_same (is_kind kind.Comma) c.phrases.rest.now) c.in_ok-more.ensures c.phrases.invariant)

pub listed-returns : goal.listed-returns
listed-returns t c =
    loop_ends (further (expression_within 0 c.args.room)) (expressions c.args.room) c.phrases.all c.phrases.rest.now _ (sym c.phrases-test.false ∙ c.begins.ensures ∙ begins_same (is_kind kind.Comma) c.phrases.rest.now) c.phrases.invariant

pub selected-returns-in_err-more : goal.selected-returns-in_err-more
selected-returns-in_err-more t c =
    let p = err_from_is_err_and c.from_residual-in_err-more.result c.from_residual-in_err-more.ensures.1 in
    rw (p.1, p.2)
    (step_stops (selection (is_zero c.args.room) (under 0 c.args.room).expression) (selections c.args.room) selected_by_all selected_by selections_gather c.in_err-more.field-0.0 c.selections.whole c.selections.rest.now _ (sym c.selections-test.true ∙ c.begins.ensures ∙ selection_begins c.args.room c.selections.rest.now) c.in_err-more.ensures c.selections.invariant)

pub selected-selections-smaller : goal.selected-selections-smaller
selected-selections-smaller t c =
    step_shortens (selection (is_zero c.args.room) (under 0 c.args.room).expression) (selections c.args.room) selected_by_all selected_by selections_gather c.selections.whole c.selections.rest.now c.in_ok-more.more c.in_ok-more.after.now c.in_ok-more.ensures

pub selected-selections-preserved : goal.selected-selections-preserved
selected-selections-preserved t c =
    step_on (selection (is_zero c.args.room) (under 0 c.args.room).expression) (selections c.args.room) selected_by_all selected_by selections_gather c.selections.whole c.selections.rest.now c.in_ok-more.more c.in_ok-more.after.now _ (sym c.selections-test.true ∙ c.begins.ensures ∙ selection_begins c.args.room c.selections.rest.now) c.in_ok-more.ensures c.selections.invariant

pub selected-returns : goal.selected-returns
selected-returns t c =
    fold_ends (selection (is_zero c.args.room) (under 0 c.args.room).expression) (selections c.args.room) selected_by_all selected_by selections_gather c.selections.whole c.selections.rest.now _ (sym c.selections-test.false ∙ c.begins.ensures ∙ selection_begins c.args.room c.selections.rest.now) c.selections.invariant

pub turns-returns-in_err-condition-2 : goal.turns-returns-in_err-condition-2
turns-returns-in_err-condition-2 t c =
    let p = err_from_is_err_and c.from_residual-in_err-condition-2.result c.from_residual-in_err-condition-2.ensures.1 in
    rw (p.1, p.2)
    (fold_stops (branch (expression_within 0 c.args.room)) (branches c.args.room) with_turns with_turn turns_gather c.in_err-condition-2.field-0.0 c.branches.all c.branches.rest.now _ (sym c.branches-test.true ∙ c.expression_begins.ensures ∙ branch_begins c.args.room c.branches.rest.now) c.in_err-condition-2.ensures c.branches.invariant)

pub turns-branches-smaller : goal.turns-branches-smaller
turns-branches-smaller t c = loop_shortens (branch (expression_within 0 c.args.room)) (branches c.args.room) c.branches.rest.now _ c.in_ok-condition-2.after.now c.in_ok-condition-2.ensures

pub turns-branches-preserved : goal.turns-branches-preserved
turns-branches-preserved t c =
    rw (c.in_ok-append.ensures, c.in_ok-more.ensures)
    (fold_on (branch (expression_within 0 c.args.room)) (branches c.args.room) with_turns with_turn turns_gather c.branches.all c.branches.rest.now _ c.in_ok-condition-2.after.now _ (sym c.branches-test.true ∙ c.expression_begins.ensures ∙ branch_begins c.args.room c.branches.rest.now) c.in_ok-condition-2.ensures c.branches.invariant)

pub turns-returns : goal.turns-returns
turns-returns t c =
    fold_ends (branch (expression_within 0 c.args.room)) (branches c.args.room) with_turns with_turn turns_gather c.branches.all c.branches.rest.now _ (sym c.branches-test.false ∙ c.expression_begins.ensures ∙ branch_begins c.args.room c.branches.rest.now) c.branches.invariant

pub links-returns-in_err-link : goal.links-returns-in_err-link
links-returns-in_err-link t c =
    let p = err_from_is_err_and c.from_residual.result c.from_residual.ensures.1 in
    rw (p.1, p.2) (links_stop c.args.rank c.args.room c.in_err-link.field-0.0 c.links.links c.links.rest.now _ c.links.invariant (sym c.goes_on.ensures ∙ c.links-test.true) c.in_err-link.ensures)

pub links-links-preserved : goal.links-links-preserved
links-links-preserved t c =
    rw c.in_ok-push.ensures.ok (links_go_on c.args.rank c.args.room c.links.links c.links.rest.now c.in_ok-link.link c.in_ok-link.after.now _ c.links.invariant (sym c.goes_on.ensures ∙ c.links-test.true) c.in_ok-link.ensures)

pub links-returns : goal.links-returns
links-returns t c = links_end c.args.rank c.args.room c.links.links c.links.rest.now _ c.links.invariant (sym c.goes_on.ensures ∙ c.links-test.false)
