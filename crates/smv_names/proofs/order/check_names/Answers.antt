-- Definitions are judged where all names lead somewhere.
use Rattle.std.proofs.Common.{sym}
use Rattle.std.proofs.lemmas.Result.{err_from_is_err_and}
use Rattle.smv_names.specs.Named.{unknown_names}
use Rattle.smv_names.specs.Rules.{instance_names_verdict}
use Rattle.smv_names.proofs.Saying.{gives_err}
use Rattle.smv_names.proofs.Ordered.{known_stops, unknown_stops, definitions_give}
use Rattle.smv_names.proofs.order.check_names.Goals as goal

pub returns-in_err-unknown_names : goal.returns-in_err-unknown_names
returns-in_err-unknown_names c =
    let p = err_from_is_err_and c.from_residual.result c.from_residual.ensures.1 in
    let e = c.in_err-unknown_names.field-0.0 in
    gives_err (instance_names_verdict c.args.scope.now.program) c.from_residual.result e (rw (sym p.2) p.1)
    (unknown_stops c.args.scope.now.program e (known_stops (Unit {0}) (unknown_names c.args.scope.now.program) e c.in_err-unknown_names.ensures))

pub returns : goal.returns
returns c = definitions_give c.args.scope.now.program c.in_ok-unknown_names.ensures c.definitions.result c.definitions.ensures
