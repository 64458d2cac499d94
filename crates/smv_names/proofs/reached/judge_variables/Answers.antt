-- What is said of one is said of all.
use Rattle.std.proofs.Common.{arith, sym}
use Rattle.std.proofs.lemmas.Result.{err_from_is_err_and}
use Rattle.smv_tree.specs.declared.tree.Variable.{Variable}
use Rattle.smv_names.specs.Reached.{use_verdict}
use Rattle.smv_names.proofs.Saying.{each_stops, each_goes_on, gives_err, err_gives}
use Rattle.smv_names.proofs.reached.judge_variables.Goals as goal

pub returns-in_err-judge_use : goal.returns-in_err-judge_use
returns-in_err-judge_use c =
    let p = err_from_is_err_and c.from_residual.result c.from_residual.ensures.1 in
    let e = c.in_err-judge_use.field-0.0 in
    gives_err _ c.from_residual.result e (rw (sym p.2) p.1)
    (each_stops (λ (v : Variable). use_verdict c.args.which c.args.uses.now.program.now c.args.n v v.declared) c.args.variables.now c.loop-variable.variable-index c.variable-item.result (omega (arith, c.loop-variable-test.true)) c.variable-item.is c.loop-variable.invariant e
    (err_gives (Unit {0}) _ e c.in_err-judge_use.ensures))

pub loop-variable-preserved : goal.loop-variable-preserved
loop-variable-preserved c =
    each_goes_on (λ (v : Variable). use_verdict c.args.which c.args.uses.now.program.now c.args.n v v.declared) c.args.variables.now c.loop-variable.variable-index c.variable-item.result (omega (arith, c.loop-variable-test.true)) c.variable-item.is c.loop-variable.invariant
    c.in_ok-judge_use.ensures
