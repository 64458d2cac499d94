use Rattle.std.proofs.Common.{subst}
use Rattle.frame_book.specs.declared.claim.Claiming.{Claiming}
use Rattle.frame_book.specs.declared.claim.Claiming.TheVariants.{Idle}
use Rattle.frame_book.specs.Book.{Claims}
use Rattle.prove_run.proofs.Going.{idle_never}
use Rattle.prove_run.proofs.playing.turn.Goals as goal

pub returns-in-Idle-clause-closed : goal.returns-in-Idle-clause-closed
returns-in-Idle-clause-closed g c = λ e.
    let b = c.args.book.now in
    let idle : Claims b 0 Idle c.claim.new.self = subst (λ (a : Claiming). Claims b 0 a c.claim.new.self) c.in-Idle.is c.in_ok-claim.ensures.done in
    absurd (idle_never g.B.Begun.before b c.args.solver.now (g.Q.Purse.tickets c.args.purse.now) (g.Q.Purse.spent c.args.purse.now) c.requires.played idle.0 idle.1)
