use Rattle.std.proofs.Common.{sym, ◌∙◌}
use Rattle.std.proofs.lemmas.Result.{err_from_is_err_and}
use Rattle.smv_parse.specs.Programs.{definition}
use Rattle.smv_phrases.proofs.Repeats.{loop_on, loop_ends, loop_stops, loop_shortens}
use Rattle.smv_parse.proofs.OfLoops.{definitions, definition_begins}
use Rattle.smv_parse.proofs.programs.many_definitions.Goals as goal

pub returns-in_err-one : goal.returns-in_err-one
returns-in_err-one c =
    let e = err_from_is_err_and c.from_residual.result c.from_residual.ensures.1 in
    rw (e.1, e.2) (loop_stops (definition 0) definitions c.in_err-one.field-0.0 c.phrases.all c.phrases.rest.now _ (sym c.phrases-test.true ∙ c.begins_identifier.ensures ∙ definition_begins c.phrases.rest.now) c.in_err-one.ensures c.phrases.invariant)

pub phrases-smaller : goal.phrases-smaller
phrases-smaller c = loop_shortens (definition 0) definitions c.phrases.rest.now c.in_ok-one.one c.in_ok-one.after.now c.in_ok-one.ensures

pub phrases-preserved : goal.phrases-preserved
phrases-preserved c =
    rw c.in_ok-push.ensures.ok (loop_on (definition 0) definitions c.phrases.all c.phrases.rest.now c.in_ok-one.one c.in_ok-one.after.now _ (sym c.phrases-test.true ∙ c.begins_identifier.ensures ∙ definition_begins c.phrases.rest.now) c.in_ok-one.ensures c.phrases.invariant)

pub returns : goal.returns
returns c = loop_ends (definition 0) definitions c.phrases.all c.phrases.rest.now _ (sym c.phrases-test.false ∙ c.begins_identifier.ensures ∙ definition_begins c.phrases.rest.now) c.phrases.invariant
