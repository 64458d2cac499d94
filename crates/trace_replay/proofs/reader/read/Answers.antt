-- One line more, and a line that may not stand there.
use Rattle.std.proofs.Common.{◌<◌, List, ℕ, length, refl, sym, subst, arith}
use Rattle.trace_replay.specs.Reading.{IsLinesStop, refusal_at}
use Rattle.trace_replay.specs.Steps.{IsAfter, IsRead}
use Rattle.trace_replay.proofs.OfReading.{read_more, refused_at, texts_more}
use Rattle.trace_replay.proofs.reader.read.Goals as goal

pub returns-in-None-clause-refused : goal.returns-in-None-clause-refused
returns-in-None-clause-refused c =
    let i = c.loop-line.line-index in
    let lines = c.args.lines.now in
    let line = c.line-item.result in
    let within : i < length lines = omega (arith, c.loop-line-test.true) in
    let stop = subst (IsAfter c.loop-line.reading line.text) c.in-None.is c.in_ok-after.ensures in
    subst (IsLinesStop c.args.specs lines) (sym c.refused.ensures)
    (refused_at c.args.specs lines i line c.loop-line.reading (refusal_at line.number) within c.line-item.is c.loop-line.invariant stop refl)

pub loop-line-preserved : goal.loop-line-preserved
loop-line-preserved c =
    let i = c.loop-line.line-index in
    let lines = c.args.lines.now in
    let line = c.line-item.result in
    let within : i < length lines = omega (arith, c.loop-line-test.true) in
    let next = subst (IsAfter c.loop-line.reading line.text) c.in-Some.is c.in_ok-after.ensures in
    subst (λ (l : List (List ℕ)). IsRead c.args.specs l c.in-Some.more) (sym (texts_more lines i line within c.line-item.is))
    (read_more c.args.specs _ line.text c.loop-line.reading c.in-Some.more c.loop-line.invariant next)
