use Rattle.smv_cli.proofs.Complete.{complete}
use Rattle.smv_cli.proofs.top.run.Goals as goal

pub returns-clause-complete : goal.returns-clause-complete
returns-clause-complete g c = λ command says sure_source sure_sink.
    let e = c.perform.ensures in
    complete _ command (g.S.Source.left c.args.source.now) (g.K.Sink.taken c.args.sink.now) (g.K.Sink.taken c.perform.new.sink) c.perform.result says e.named (λ five. sure_source (e.read_fault five)) (λ six. sure_sink (e.write_fault six)) e.answered
