-- The sink that was empty has the whole report.
use Rattle.std.proofs.Common.{ℕ, List, arith, subst, sym}
use Rattle.smv_cli.specs.Report.{IsTaken, input_of}
use Rattle.smv_cli.proofs.Reports.{whole-report}
use Rattle.smv_cli.proofs.top.run_over_bytes.Goals as goal

pub returns-clause-report : goal.returns-clause-report
returns-clause-report g c = λ small.
    whole-report _ c.new-source.result c.new-sink.result c.run-status.new.sink c.args.text.items c.into_bytes.result.items c.run-status.result c.new-source.ensures c.new-sink.ensures c.into_bytes.ensures (c.run-status.ensures.answered small)

pub returns-clause-complete : goal.returns-clause-complete
returns-clause-complete g c = λ command says taken.
    c.run-status.ensures.complete command says (λ rose. let no : ⊥ = omega (arith, rose) in no) (λ rose. let no : ⊥ = omega (arith, rose) in no)
    (subst (λ (bytes : List ℕ). IsTaken command (input_of command bytes)) (sym c.new-source.ensures) taken)
