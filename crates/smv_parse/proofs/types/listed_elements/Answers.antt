use Rattle.std.proofs.Common.{sym, ◌∙◌}
use Rattle.std.proofs.lemmas.Result.{err_from_is_err_and}
use Rattle.smv_tree.specs.declared.token.TokenKind.TheVariants as kind
use Rattle.smv_tree.specs.Kinds.{is_kind}
use Rattle.smv_parse.specs.Types.{element}
use Rattle.smv_phrases.specs.Lists.{further}
use Rattle.smv_phrases.proofs.OfNames.{begins_same}
use Rattle.smv_phrases.proofs.OfLists.{listed_begins}
use Rattle.smv_phrases.proofs.Repeats.{loop_on, loop_ends, loop_stops, loop_shortens}
use Rattle.smv_parse.proofs.OfLoops.{elements}
use Rattle.smv_parse.proofs.types.listed_elements.Goals as goal

pub phrases-init : goal.phrases-init
phrases-init c = rw (c.in_ok-push.ensures.ok, c.new-all.ensures) (listed_begins (element c.args.closed) c.args.tokens.now c.in_ok-first.first c.in_ok-first.tokens.now c.in_ok-first.ensures)

pub returns-in_err-one : goal.returns-in_err-one
returns-in_err-one c =
    let e = err_from_is_err_and c.from_residual-in_err-one.result c.from_residual-in_err-one.ensures.1 in
    rw (e.1, e.2) (loop_stops (further (element c.args.closed)) (elements c.args.closed) c.in_err-one.field-0.0 c.phrases.all c.phrases.rest.now _ (sym c.phrases-test.true ∙ c.begins.ensures ∙ begins_same (is_kind kind.Comma) c.phrases.rest.now) c.in_err-one.ensures c.phrases.invariant)

pub phrases-smaller : goal.phrases-smaller
phrases-smaller c = loop_shortens (further (element c.args.closed)) (elements c.args.closed) c.phrases.rest.now c.in_ok-one.one c.in_ok-one.after.now c.in_ok-one.ensures

pub phrases-preserved : goal.phrases-preserved
phrases-preserved c =
    rw c.in_ok-push-2.ensures.ok (loop_on (further (element c.args.closed)) (elements c.args.closed) c.phrases.all c.phrases.rest.now c.in_ok-one.one c.in_ok-one.after.now _ (sym c.phrases-test.true ∙ c.begins.ensures ∙ begins_same (is_kind kind.Comma) c.phrases.rest.now) c.in_ok-one.ensures c.phrases.invariant)

pub returns : goal.returns
returns c = loop_ends (further (element c.args.closed)) (elements c.args.closed) c.phrases.all c.phrases.rest.now _ (sym c.phrases-test.false ∙ c.begins.ensures ∙ begins_same (is_kind kind.Comma) c.phrases.rest.now) c.phrases.invariant
