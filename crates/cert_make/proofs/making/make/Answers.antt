use Rattle.cert_make.proofs.Paid.{nothing_asked}
use Rattle.cert_make.proofs.making.make.Goals as goal

pub returns-in-Spent-clause-pays : goal.returns-in-Spent-clause-pays
returns-in-Spent-clause-pays g c =
    let pays = rw c.in-Spent.is at c.in_ok-drawn.ensures.pays in
    let start = g.Q.Purse.tickets c.args.purse.now in
    pays start (nothing_asked c.args.system.now c.args.clauses.now start)

pub returns-clause-pays : goal.returns-clause-pays
returns-clause-pays g c =
    let pays = rw c.in-Refuted.is at c.in_ok-drawn.ensures.pays in
    let start = g.Q.Purse.tickets c.args.purse.now in
    let all = pays start (nothing_asked c.args.system.now c.args.clauses.now start) in
    (all.log, all.pays)
