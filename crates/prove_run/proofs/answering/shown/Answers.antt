use Rattle.std.proofs.Common.{true, refl}
use Rattle.prove_run.proofs.Answered.{spent_next, certified_at, open_at}
use Rattle.prove_run.proofs.answering.shown.Goals as goal

pub returns-then-spent-clause-next : goal.returns-then-spent-clause-next
returns-then-spent-clause-next g c =
    λ over. spent_next c.args.effort.now c.args.frames.now over c.args.j c.args.level (g.Q.Purse.tickets c.args.purse.now) c.args.spent.now c.spent_by.result
    c.requires.invariant c.if-spent.true c.spent_by.ensures

pub returns-in-Some-clause-next : goal.returns-in-Some-clause-next
returns-in-Some-clause-next g c =
    let said = rw c.in-Some.is at c.in_ok-cert.ensures.certified in
    λ over. certified_at c.args.effort.now c.args.frames.now over c.args.j c.args.level (g.Q.Purse.tickets c.args.purse.now) (g.Q.Purse.tickets c.certificate_of.new.purse)
    c.args.spent.now c.args.spent.now (g.Q.Purse.spent c.certificate_of.new.purse) c.requires.invariant c.if-spent.false c.in-Some.cert said

pub returns-in-None-clause-next : goal.returns-in-None-clause-next
returns-in-None-clause-next g c =
    let said = rw c.in-None.is at c.in_ok-cert.ensures.certified in
    λ over. open_at c.args.effort.now c.args.frames.now over c.args.j c.args.level (g.Q.Purse.tickets c.args.purse.now) (g.Q.Purse.tickets c.certificate_of.new.purse)
    c.args.spent.now true (g.Q.Purse.spent c.certificate_of.new.purse) c.requires.invariant c.if-spent.false c.spent_by-in-None.result refl c.spent_by-in-None.ensures said
