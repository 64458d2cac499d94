-- What is said of one is said of all.
use Rattle.std.proofs.Common.{arith, sym}
use Rattle.std.proofs.lemmas.Result.{err_from_is_err_and}
use Rattle.smv_names.specs.Reached.{section_verdict}
use Rattle.smv_names.proofs.Saying.{each_stops, each_goes_on, each_ends, gives_err, err_gives}
use Rattle.smv_names.proofs.reached.judge_sections.Goals as goal

pub returns-in_err-judge_section : goal.returns-in_err-judge_section
returns-in_err-judge_section c =
    let p = err_from_is_err_and c.from_residual.result c.from_residual.ensures.1 in
    let e = c.in_err-judge_section.field-0.0 in
    gives_err _ c.from_residual.result e (rw (sym p.2) p.1)
    (each_stops (section_verdict c.args.which c.args.uses.now.program.now c.args.n) c.args.sections.now c.loop-section.section-index c.section-item.result (omega (arith, c.loop-section-test.true)) c.section-item.is c.loop-section.invariant e
    (err_gives (Unit {0}) _ e c.in_err-judge_section.ensures))

pub loop-section-preserved : goal.loop-section-preserved
loop-section-preserved c =
    each_goes_on (section_verdict c.args.which c.args.uses.now.program.now c.args.n) c.args.sections.now c.loop-section.section-index c.section-item.result (omega (arith, c.loop-section-test.true)) c.section-item.is c.loop-section.invariant
    c.in_ok-judge_section.ensures

pub returns : goal.returns
returns c = each_ends (section_verdict c.args.which c.args.uses.now.program.now c.args.n) c.args.sections.now c.loop-section.section-index (omega (arith, c.loop-section-test.false)) c.loop-section.invariant
