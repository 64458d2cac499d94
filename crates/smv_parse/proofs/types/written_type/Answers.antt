use Rattle.std.proofs.Common.{suc, sym, ◌∙◌}
use Rattle.std.proofs.lemmas.Result.{err_from_is_err_and}
use Rattle.smv_parse.specs.Types.{types, written_type}
use Rattle.smv_parse.proofs.TypeLoop.{none_before, dimension_on, dimension_stops, elements_end, elements_stop}
use Rattle.smv_parse.proofs.types.written_type.Goals as goal

pub dimensions-init : goal.dimensions-init
unfolding written_type
dimensions-init c = rw c.new-dimensions.ensures (none_before ((types 0 (suc c.args.room)).parse c.args.tokens.now))

pub returns-in_err-dimension : goal.returns-in_err-dimension
returns-in_err-dimension c =
    let p = err_from_is_err_and c.from_residual.result c.from_residual.ensures.1 in
    rw (p.1, p.2) (dimension_stops c.in_err-dimension.field-0.0 c.dimensions.room c.dimensions.dimensions c.dimensions.rest.now _ (sym c.dimensions-test.true ∙ c.begins.ensures) c.in_err-dimension.ensures.read c.dimensions.invariant)

pub dimensions-preserved : goal.dimensions-preserved
dimensions-preserved c =
    rw c.in_ok-push.ensures.ok (dimension_on c.dimensions.room c.dimensions.dimensions c.dimensions.rest.now c.in_ok-dimension.dimension c.in_ok-dimension.after.now _ (sym c.dimensions-test.true ∙ c.begins.ensures) c.in_ok-dimension.ensures.room c.in_ok-dimension.ensures.read c.dimensions.invariant)

pub returns-in_err-declared : goal.returns-in_err-declared
returns-in_err-declared c =
    let p = err_from_is_err_and c.from_residual-in_err-declared.result c.from_residual-in_err-declared.ensures.1 in
    rw (p.1, p.2) (elements_stop c.in_err-declared.field-0.0 c.dimensions.room c.dimensions.dimensions c.dimensions.rest.now _ (sym c.dimensions-test.false ∙ c.begins.ensures) c.in_err-declared.ensures c.dimensions.invariant)

pub returns : goal.returns
returns c = elements_end c.dimensions.room c.dimensions.dimensions c.dimensions.rest.now c.in_ok-declared.declared c.in_ok-declared.rest.now _ (sym c.dimensions-test.false ∙ c.begins.ensures) c.in_ok-declared.ensures c.dimensions.invariant
