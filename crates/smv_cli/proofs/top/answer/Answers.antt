use Rattle.std.proofs.Common.{subst, sym}
use Rattle.smv_cli.specs.Written.{IsInput}
use Rattle.smv_cli.proofs.Reports.{done-answered, part-begun, nothing-begun}
use Rattle.smv_cli.proofs.top.answer.Goals as goal

pub returns-in-Err-Failed-clause-begun : goal.returns-in-Err-Failed-clause-begun
returns-in-Err-Failed-clause-begun g c = λ _. nothing-begun c.args.command.now (g.S.Source.left c.args.source.now) (g.K.Sink.taken c.args.sink.now)

pub returns-in-Err-NoMemory-clause-begun : goal.returns-in-Err-NoMemory-clause-begun
returns-in-Err-NoMemory-clause-begun g c = λ _. nothing-begun c.args.command.now (g.S.Source.left c.args.source.now) (g.K.Sink.taken c.args.sink.now)

pub returns-in-Ok-report-clause-answered : goal.returns-in-Ok-report-clause-answered
returns-in-Ok-report-clause-answered g c = λ _.
    let read : IsInput c.args.command.now (g.S.Source.left c.args.source.now) c.deref.result.now = subst (IsInput c.args.command.now (g.S.Source.left c.args.source.now)) (sym c.deref.ensures.value) c.in-Ok.ensures.input in
    done-answered c.args.command.now (g.S.Source.left c.args.source.now) (g.K.Sink.taken c.args.sink.now) (g.K.Sink.taken c.report.new.sink) c.deref.result.now c.in-Ok-report.status read c.in-Ok-report.ensures.ok

pub returns-in-Err-Failed-report-clause-begun : goal.returns-in-Err-Failed-report-clause-begun
returns-in-Err-Failed-report-clause-begun g c = λ _.
    let read : IsInput c.args.command.now (g.S.Source.left c.args.source.now) c.deref.result.now = subst (IsInput c.args.command.now (g.S.Source.left c.args.source.now)) (sym c.deref.ensures.value) c.in-Ok.ensures.input in
    part-begun c.args.command.now (g.S.Source.left c.args.source.now) (g.K.Sink.taken c.args.sink.now) (g.K.Sink.taken c.report.new.sink) c.deref.result.now read c.report.ensures.part

pub returns-clause-begun : goal.returns-clause-begun
returns-clause-begun g c = λ _.
    let read : IsInput c.args.command.now (g.S.Source.left c.args.source.now) c.deref.result.now = subst (IsInput c.args.command.now (g.S.Source.left c.args.source.now)) (sym c.deref.ensures.value) c.in-Ok.ensures.input in
    part-begun c.args.command.now (g.S.Source.left c.args.source.now) (g.K.Sink.taken c.args.sink.now) (g.K.Sink.taken c.report.new.sink) c.deref.result.now read c.report.ensures.part
