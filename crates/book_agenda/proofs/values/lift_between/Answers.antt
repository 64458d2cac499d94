use Rattle.std.proofs.Common.{sym, subst}
use Rattle.frame_core.specs.FrameLaw.{lemma_at}
use Rattle.book_agenda.specs.Values.{AreMetBelow}
use Rattle.book_agenda.proofs.Agendas.{low_of, met_still}
use Rattle.book_agenda.proofs.values.lift_between.Goals as goal

pub lifted_at-level-requires-clause-met : goal.lifted_at-level-requires-clause-met
lifted_at-level-requires-clause-met c =
    let f = c.args.frames.now in
    let start = c.args.blocked.now.items in
    let bs = c.loop-o.blocked.items in
    let i = c.loop-o.invariant in
    subst (AreMetBelow f c.args.n c.args.from) (sym c.deref.ensures.value)
    (met_still f c.args.n c.args.from start bs i.0
    (low_of (lemma_at f.lemmas c.args.n) f.obligations c.args.begin c.loop-o.o start bs (λ k begin end _. i.2 k begin end) i.3 i.4) c.requires.met)
