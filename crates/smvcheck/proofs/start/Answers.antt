-- The texts are those of the words.
use Rattle.std.proofs.Common.{◌∙◌, ℕ, List, Bor, map, ap}
use Rattle.std.specs.Prelude.{string_bytes}
use Rattle.smv_cli.proofs.Reports.{unread-begun}
use Rattle.smvcheck.proofs.start.Goals as goal

pub returns-in_default-clause-begun : goal.returns-in_default-clause-begun
returns-in_default-clause-begun g c = λ _. unread-begun (map string_bytes c.args.words.now) (g.S.Source.left c.args.source.now) (g.K.Sink.taken c.args.sink.now)

pub returns-clause-answered : goal.returns-clause-answered
returns-clause-answered g c =
    let same = ap (map (λ (w : Bor (List ℕ)). w.now)) c.deref.ensures.value ∙ c.in-Ok.ensures in
    rw same at c.run.ensures.answered

pub returns-clause-begun : goal.returns-clause-begun
returns-clause-begun g c =
    let same = ap (map (λ (w : Bor (List ℕ)). w.now)) c.deref.ensures.value ∙ c.in-Ok.ensures in
    rw same at c.run.ensures.begun

pub returns-clause-usage : goal.returns-clause-usage
returns-clause-usage g c =
    let same = ap (map (λ (w : Bor (List ℕ)). w.now)) c.deref.ensures.value ∙ c.in-Ok.ensures in
    rw same at c.run.ensures.usage

pub returns-clause-outside : goal.returns-clause-outside
returns-clause-outside g c =
    let same = ap (map (λ (w : Bor (List ℕ)). w.now)) c.deref.ensures.value ∙ c.in-Ok.ensures in
    rw same at c.run.ensures.outside

pub returns-clause-unread : goal.returns-clause-unread
returns-clause-unread g c =
    let same = ap (map (λ (w : Bor (List ℕ)). w.now)) c.deref.ensures.value ∙ c.in-Ok.ensures in
    rw same at c.run.ensures.unread

pub returns-clause-made : goal.returns-clause-made
returns-clause-made g c =
    let same = ap (map (λ (w : Bor (List ℕ)). w.now)) c.deref.ensures.value ∙ c.in-Ok.ensures in
    rw same at c.run.ensures.made

pub returns-clause-complete : goal.returns-clause-complete
returns-clause-complete g c =
    let same = ap (map (λ (w : Bor (List ℕ)). w.now)) c.deref.ensures.value ∙ c.in-Ok.ensures in
    rw same at c.run.ensures.complete
