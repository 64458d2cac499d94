-- The texts are those of the words.
use Rattle.std.proofs.Common.{◌∙◌, ℕ, List, Bor, map, ap}
use Rattle.std.specs.Prelude.{string_bytes}
use Rattle.smvtrace.proofs.OfRun.{unread_begun}
use Rattle.smvtrace.proofs.start.Goals as goal

pub returns-in_default-clause-begun : goal.returns-in_default-clause-begun
returns-in_default-clause-begun g c = λ _. unread_begun (map string_bytes c.args.words.now) (g.S.Source.left c.args.source.now) (g.K.Sink.taken c.args.sink.now)

pub returns-clause-answered : goal.returns-clause-answered
returns-clause-answered g c =
    let same = ap (map (λ (w : Bor (List ℕ)). w.now)) c.deref.ensures.value ∙ c.in-Ok.ensures in
    rw same at c.run.ensures.answered

pub returns-clause-begun : goal.returns-clause-begun
returns-clause-begun g c =
    let same = ap (map (λ (w : Bor (List ℕ)). w.now)) c.deref.ensures.value ∙ c.in-Ok.ensures in
    rw same at c.run.ensures.begun
