-- The report of what the words say.
use Rattle.std.proofs.Common.{◌≡◌, ap, arith, map, Bor, List, ℕ, Err}
use Rattle.command_words.specs.Grammar.{IsCommandLine}
use Rattle.command_words.specs.declared.command.Command.TheVariants.{Ring}
use Rattle.command_words.proofs.Unique.{said_once}
use Rattle.smv_cli.proofs.Ranges.{in_range}
use Rattle.smv_cli.proofs.Reports.{said-answered, said-begun, unread-begun, usage-answered, usage-begun}
use Rattle.smv_cli.proofs.top.perform.Goals as goal

pub returns-in-Ok-clause-answered : goal.returns-in-Ok-clause-answered
returns-in-Ok-clause-answered g c = λ small.
    let words = map (λ (w : Bor (List ℕ)). w.now) c.args.words.now in
    said-answered words (g.S.Source.left c.args.source.now) (g.K.Sink.taken c.args.sink.now) c.in-Ok.command (g.K.Sink.taken c.answer.new.sink) c.answer.result c.in-Ok.ensures.said (c.answer.ensures.answered small)

pub returns-in-Ok-clause-begun : goal.returns-in-Ok-clause-begun
returns-in-Ok-clause-begun g c = λ large.
    let words = map (λ (w : Bor (List ℕ)). w.now) c.args.words.now in
    said-begun words (g.S.Source.left c.args.source.now) (g.K.Sink.taken c.args.sink.now) c.in-Ok.command (g.K.Sink.taken c.answer.new.sink) c.in-Ok.ensures.said (c.answer.ensures.begun large)

pub returns-in-Err-Outside-clause-answered : goal.returns-in-Err-Outside-clause-answered
returns-in-Err-Outside-clause-answered g c = λ small.
    let words = map (λ (w : Bor (List ℕ)). w.now) c.args.words.now in
    let outside : IsCommandLine words → ⊥ = c.in-Err-Outside.ensures.outside (ap Err c.in-Err-Outside.field-0-is) in
    let four : c.refuse_words.result ≡ 4 = omega arith in
    usage-answered words (g.S.Source.left c.args.source.now) (g.K.Sink.taken c.args.sink.now) (g.K.Sink.taken c.refuse_words.new.sink) c.refuse_words.result outside four (c.refuse_words.ensures.printed four)

pub returns-in-Err-Outside-clause-begun : goal.returns-in-Err-Outside-clause-begun
returns-in-Err-Outside-clause-begun g c = λ _.
    let words = map (λ (w : Bor (List ℕ)). w.now) c.args.words.now in
    let outside : IsCommandLine words → ⊥ = c.in-Err-Outside.ensures.outside (ap Err c.in-Err-Outside.field-0-is) in
    usage-begun words (g.S.Source.left c.args.source.now) (g.K.Sink.taken c.args.sink.now) (g.K.Sink.taken c.refuse_words.new.sink) outside c.refuse_words.ensures.front

pub returns-in-Err-NoMemory-clause-begun : goal.returns-in-Err-NoMemory-clause-begun
returns-in-Err-NoMemory-clause-begun g c = λ _. unread-begun (map (λ (w : Bor (List ℕ)). w.now) c.args.words.now) (g.S.Source.left c.args.source.now) (g.K.Sink.taken c.args.sink.now)

pub answer-requires : goal.answer-requires
answer-requires g c = (c.type_bounds.sync-R, (c.type_bounds.sync-G, in_range (map (λ (w : Bor (List ℕ)). w.now) c.args.words.now) c.in-Ok.command c.in-Ok.ensures.said))

pub returns-in-Ok-clause-made : goal.returns-in-Ok-clause-made
returns-in-Ok-clause-made g c = λ ring says.
    let words = map (λ (w : Bor (List ℕ)). w.now) c.args.words.now in
    c.answer.ensures.unread ring (said_once words c.in-Ok.command (Ring ring) c.in-Ok.ensures.said says)
