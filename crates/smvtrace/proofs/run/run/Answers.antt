-- What was written, by the words and the report.
use Rattle.std.proofs.Common.{◌≡◌, List, ℕ, Bor, map, sym, subst, ◌∙◌, arith}
use Rattle.smvtrace.specs.Run.{report_limit}
use Rattle.smvtrace.specs.Streams.{ReadsFirst}
use Rattle.smvtrace.proofs.OfRun.{shown_answered, shown_begun, unread_begun, usage_answered, usage_begun}
use Rattle.smvtrace.proofs.run.run.Goals as goal

pub returns-in_default-clause-answered : goal.returns-in_default-clause-answered
returns-in_default-clause-answered g c = λ small.
    let words = map (λ (w : Bor (List ℕ)). w.now) c.args.words.now in
    let four : c.refuse_words.result ≡ 4 = omega arith in
    usage_answered words (g.S.Source.left c.args.source.now) (g.K.Sink.taken c.args.sink.now) (g.K.Sink.taken c.refuse_words.new.sink) c.refuse_words.result four
    (sym c.command_of.ensures ∙ c.in_default.is) (c.refuse_words.ensures.ok four)

pub returns-in_default-clause-begun : goal.returns-in_default-clause-begun
returns-in_default-clause-begun g c = λ large.
    let words = map (λ (w : Bor (List ℕ)). w.now) c.args.words.now in
    usage_begun words (g.S.Source.left c.args.source.now) (g.K.Sink.taken c.args.sink.now) (g.K.Sink.taken c.refuse_words.new.sink)
    (sym c.command_of.ensures ∙ c.in_default.is) c.refuse_words.ensures.front

pub returns-in-Ok-clause-answered : goal.returns-in-Ok-clause-answered
returns-in-Ok-clause-answered g c = λ small.
    let words = map (λ (w : Bor (List ℕ)). w.now) c.args.words.now in
    let left = g.S.Source.left c.args.source.now in
    let read = subst (ReadsFirst report_limit left) (sym c.deref.ensures.value) c.in-Ok.ensures.bytes in
    shown_answered words left (g.K.Sink.taken c.args.sink.now) (g.K.Sink.taken c.show.new.sink) c.in-Some.command c.deref.result.now c.show.result
    (sym c.command_of.ensures ∙ c.in-Some.is) read (c.show.ensures.ok small) (c.show.ensures.status small)

pub returns-in-Ok-clause-begun : goal.returns-in-Ok-clause-begun
returns-in-Ok-clause-begun g c = λ large.
    let words = map (λ (w : Bor (List ℕ)). w.now) c.args.words.now in
    let left = g.S.Source.left c.args.source.now in
    let read = subst (ReadsFirst report_limit left) (sym c.deref.ensures.value) c.in-Ok.ensures.bytes in
    shown_begun words left (g.K.Sink.taken c.args.sink.now) (g.K.Sink.taken c.show.new.sink) c.in-Some.command c.deref.result.now
    (sym c.command_of.ensures ∙ c.in-Some.is) read c.show.ensures.front

pub returns-in-Err-Failed-clause-begun : goal.returns-in-Err-Failed-clause-begun
returns-in-Err-Failed-clause-begun g c = λ _. unread_begun (map (λ (w : Bor (List ℕ)). w.now) c.args.words.now) (g.S.Source.left c.args.source.now) (g.K.Sink.taken c.args.sink.now)

pub returns-in-Err-NoMemory-clause-begun : goal.returns-in-Err-NoMemory-clause-begun
returns-in-Err-NoMemory-clause-begun g c = λ _. unread_begun (map (λ (w : Bor (List ℕ)). w.now) c.args.words.now) (g.S.Source.left c.args.source.now) (g.K.Sink.taken c.args.sink.now)
