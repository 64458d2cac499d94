-- A rule of modules, instances, names, depth, types or kinds is broken; or none is, and the number of bits is judged.
use Rattle.std.proofs.Common.{ap, ◌∙◌}
use Rattle.std.proofs.lemmas.Result.{err_from_is_err_and}
use Rattle.smv_tree.specs.declared.place.Place.{Place}
use Rattle.smv_scope.specs.declared.scope.Scope.{Scope}
use Rattle.smv_resolve.specs.declared.resolve.Resolution.{Resolution}
use Rattle.smv_meaning.specs.declared.typed.Typed.{Typed}
use Rattle.smv_flat.specs.declared.check.Flat.{Flat}
use Rattle.smv_front.proofs.OfSources.{modules_stop, instances_stop, names_stop, depth_stop, kinds_stop, bits_stop, model_read, told_model, told_stop}
use Rattle.smv_front.proofs.model.read_model.Goals as goal

pub returns-in_err-main-clause-refused : goal.returns-in_err-main-clause-refused
returns-in_err-main-clause-refused c =
    let p = err_from_is_err_and c.from_residual-in_err-main.result c.from_residual-in_err-main.ensures.1 in
    rw (p.1, p.2) (modules_stop c.args.text.now c.in_ok-tokens.tokens c.in_ok-program.program c.in_ok-tokens.ensures.read c.in_ok-program.ensures.spelled Place c.in_err-main.field-0.0 c.in_err-main.ensures.judged)

pub returns-in_err-scope-clause-refused : goal.returns-in_err-scope-clause-refused
returns-in_err-scope-clause-refused c =
    let p = err_from_is_err_and c.from_residual-in_err-scope.result c.from_residual-in_err-scope.ensures.1 in
    rw (p.1, p.2) (instances_stop c.args.text.now c.in_ok-tokens.tokens c.in_ok-program.program c.in_ok-tokens.ensures.read c.in_ok-program.ensures.spelled c.in_ok-main.ensures.judged Scope c.in_err-scope.field-0.0 c.in_err-scope.ensures.judged)

pub returns-in_err-check_names-clause-refused : goal.returns-in_err-check_names-clause-refused
returns-in_err-check_names-clause-refused c =
    let p = err_from_is_err_and c.from_residual-in_err-check_names.result c.from_residual-in_err-check_names.ensures.1 in
    rw (p.1, p.2) (names_stop c.args.text.now c.in_ok-tokens.tokens c.in_ok-program.program c.in_ok-tokens.ensures.read c.in_ok-program.ensures.spelled c.in_ok-main.ensures.judged c.in_ok-scope.ensures.judged c.in_ok-scope.scope.program c.in_ok-scope.ensures.same (Unit {0}) c.in_err-check_names.field-0.0 c.in_err-check_names.ensures)

pub returns-in_err-resolution-clause-refused : goal.returns-in_err-resolution-clause-refused
returns-in_err-resolution-clause-refused c =
    let p = err_from_is_err_and c.from_residual-in_err-resolution.result c.from_residual-in_err-resolution.ensures.1 in
    rw (p.1, p.2) (depth_stop c.args.text.now c.in_ok-tokens.tokens c.in_ok-program.program c.in_ok-tokens.ensures.read c.in_ok-program.ensures.spelled c.in_ok-main.ensures.judged c.in_ok-scope.ensures.judged c.in_ok-scope.scope.program c.in_ok-scope.ensures.same c.in_ok-check_names.ensures Resolution c.in_err-resolution.field-0.0 c.in_err-resolution.ensures.judged)

pub returns-in_err-typed-clause-refused : goal.returns-in_err-typed-clause-refused
returns-in_err-typed-clause-refused c =
    let p = err_from_is_err_and c.from_residual-in_err-typed.result c.from_residual-in_err-typed.ensures.1 in
    rw (p.1, p.2) (kinds_stop c.args.text.now c.in_ok-tokens.tokens c.in_ok-program.program c.in_ok-tokens.ensures.read c.in_ok-program.ensures.spelled c.in_ok-main.ensures.judged c.in_ok-scope.ensures.judged c.in_ok-scope.scope.program c.in_ok-scope.ensures.same c.in_ok-check_names.ensures c.in_ok-resolution.ensures.judged Typed c.in_err-typed.field-0.0 c.in_err-typed.ensures.judged)

pub returns-clause-model : goal.returns-clause-model
returns-clause-model c =
    told_model Flat (λ (f : Flat). f.typed.scope.program) c.args.text.now c.in_ok-flat.flat c.narrow.result
    (model_read c.args.text.now c.in_ok-tokens.tokens c.in_ok-program.program c.in_ok-scope.scope.program c.in_ok-flat.flat.typed.scope.program c.in_ok-tokens.ensures.read c.in_ok-program.ensures.spelled
    c.in_ok-main.ensures.judged c.in_ok-scope.ensures.judged c.in_ok-scope.ensures.same c.in_ok-check_names.ensures c.in_ok-resolution.ensures.judged c.in_ok-typed.ensures.judged
    (ap (λ (t : Typed). t.scope.program) c.in_ok-flat.ensures.same ∙ c.in_ok-typed.ensures.same)
    c.in_ok-flat.flat.assignable)
    c.narrow.ensures.same c.narrow.ensures.narrow

pub returns-clause-refused : goal.returns-clause-refused
returns-clause-refused c =
    told_stop Flat c.args.text.now c.in_ok-flat.flat.typed.scope.program c.narrow.result
    (λ stop wide. bits_stop c.args.text.now c.in_ok-tokens.tokens c.in_ok-program.program c.in_ok-scope.scope.program c.in_ok-flat.flat.typed.scope.program c.in_ok-tokens.ensures.read c.in_ok-program.ensures.spelled
    c.in_ok-main.ensures.judged c.in_ok-scope.ensures.judged c.in_ok-scope.ensures.same c.in_ok-check_names.ensures c.in_ok-resolution.ensures.judged c.in_ok-typed.ensures.judged
    (ap (λ (t : Typed). t.scope.program) c.in_ok-flat.ensures.same ∙ c.in_ok-typed.ensures.same)
    stop c.in_ok-flat.flat.assignable wide)
    c.narrow.ensures.refused
