-- The uses of modules are judged where their declarations break no rule.
use Rattle.std.proofs.Common.{sym}
use Rattle.std.proofs.lemmas.Result.{err_from_is_err_and}
use Rattle.smv_names.specs.Declarations.{declared_refusal}
use Rattle.smv_names.specs.Rules.{module_rules_verdict}
use Rattle.smv_names.proofs.Saying.{gives_err}
use Rattle.smv_names.proofs.Ordered.{known_stops, declared_stops, uses_give}
use Rattle.smv_names.proofs.order.check_modules.Goals as goal

pub returns-in_err-declared-clause-judged : goal.returns-in_err-declared-clause-judged
returns-in_err-declared-clause-judged c =
    let p = err_from_is_err_and c.from_residual.result c.from_residual.ensures.1 in
    let e = c.in_err-declared.field-0.0 in
    gives_err (module_rules_verdict c.args.program.now) c.from_residual.result e (rw (sym p.2) p.1)
    (declared_stops c.args.program.now e (known_stops (Unit {0}) (declared_refusal c.args.program.now) e c.in_err-declared.ensures))

pub returns-clause-judged : goal.returns-clause-judged
returns-clause-judged c = uses_give c.args.program.now c.in_ok-declared.ensures c.used.result c.used.ensures.judged
