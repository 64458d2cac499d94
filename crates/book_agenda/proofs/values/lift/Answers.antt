use Rattle.std.proofs.Common.{◌*◌, ◌∙◌, arith}
use Rattle.frame_core.specs.FrameLaw.{lemma_at}
use Rattle.book_agenda.proofs.Agendas.{low_of, met_still, lifted_more}
use Rattle.book_agenda.proofs.values.lift.Goals as goal

pub lift_part-requires-clause-met : goal.lift_part-requires-clause-met
lift_part-requires-clause-met c =
    let f = c.args.frames.now in
    let start = c.args.blocked.now.items in
    let bs = c.loop-c.blocked.items in
    let i = c.loop-c.invariant in
    met_still f c.args.n c.args.from start bs i.0
    (low_of (lemma_at f.lemmas c.args.n) f.obligations 0 (c.loop-c.c * 64) start bs (λ k _ end lt. i.3 k end lt) (λ k before. absurd (omega (arith, before))) i.4)
    c.requires.met

pub loop-c-preserved : goal.loop-c-preserved
loop-c-preserved c =
    let f = c.args.frames.now in
    let i = c.loop-c.invariant in
    let e = c.lift_part.ensures in (
      e.length ∙ i.0,
      e.parts ∙ i.1,
      e.floors,
      lifted_more (lemma_at f.lemmas c.args.n) f.obligations c.loop-c.c c.args.blocked.now.items c.loop-c.blocked.items c.lift_part.new.blocked.items
          i.0 i.3 i.4 e.each e.before,
      λ k past. e.behind k (omega arith) ∙ i.4 k (omega arith),
    )
