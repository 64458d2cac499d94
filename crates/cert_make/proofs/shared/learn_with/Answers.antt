use Rattle.cert_make.proofs.Sharing.{learned_says}
use Rattle.cert_make.proofs.Paid.{forgets_all, starts_new}
use Rattle.cert_make.proofs.shared.learn_with.Goals as goal

pub returns-in_ok-log-in-Refuted-clause-says : goal.returns-in_ok-log-in-Refuted-clause-says
returns-in_ok-log-in-Refuted-clause-says g c =
    let says = rw c.in-Refuted.is at c.in_ok-drawn.ensures.says in
    learned_says c.args.system.now.all_bits c.args.system.now.state_bits c.args.given.now c.args.clauses.now c.in_ok-log-in-Refuted.log c.args.solver.now c.learn_kept.new.solver
    c.requires.fresh c.in_ok-drawn.ensures.vars c.in_ok-drawn.ensures.given c.in_ok-drawn.ensures.sound c.in_ok-log-in-Refuted.ensures says

pub returns-in_ok-log-in-Refuted-clause-pays : goal.returns-in_ok-log-in-Refuted-clause-pays
returns-in_ok-log-in-Refuted-clause-pays g c =
    let sys = c.args.system.now in
    let pays = rw c.in-Refuted.is at c.in_ok-drawn.ensures.pays in
    λ start h. forgets_all sys c.args.clauses.now c.learn_kept.new.solver.learned _ start _
    (pays start (starts_new sys c.args.clauses.now c.args.given.now _ c.args.solver.now start _ c.requires.fresh h))

pub returns-in-Spent-clause-pays : goal.returns-in-Spent-clause-pays
returns-in-Spent-clause-pays g c =
    let sys = c.args.system.now in
    let pays = rw c.in-Spent.is at c.in_ok-drawn.ensures.pays in
    λ start h. pays start (starts_new sys c.args.clauses.now c.args.given.now _ c.args.solver.now start _ c.requires.fresh h)
