use Rattle.std.proofs.Common.{◌-◌, length}
use Rattle.std.proofs.lemmas.Result.{IfOk-weaker}
use Rattle.sat_core.specs.Queries.{learned_of, Draws}
use Rattle.sat_core.specs.Searching.{PaidFor}
use Rattle.sat_core.proofs.Results.{keeps_learnt, learns_from, draws_learned}
use Rattle.sat_core.proofs.Payments.{pays_learned}
use Rattle.sat_core.proofs.query.run.Goals as goal

pub returns-clause-keeps : goal.returns-clause-keeps
returns-clause-keeps g c =
    keeps_learnt (length (g.P.Propagator.trail c.args.inner.now).values.items) (length (g.P.Propagator.trail c.search.new.inner).values.items)
    c.args.marks.now (g.P.Propagator.clauses c.args.inner.now) (g.P.Propagator.clauses c.search.new.inner) c.args.assumptions.now
    c.requires.keeps c.search.ensures.vars c.search.ensures.learned

pub returns-clause-learns : goal.returns-clause-learns
returns-clause-learns g c =
    learns_from (length (g.P.Propagator.trail c.args.inner.now).values.items) (length (g.P.Propagator.trail c.search.new.inner).values.items)
    c.args.marks.now (g.P.Propagator.clauses c.args.inner.now) (g.P.Propagator.clauses c.search.new.inner) c.args.assumptions.now
    c.requires.keeps.known c.search.ensures.vars c.search.ensures.learned

pub returns-clause-paid : goal.returns-clause-paid
returns-clause-paid g c =
    let cs = g.P.Propagator.clauses c.args.inner.now in
    let cs' = g.P.Propagator.clauses c.search.new.inner in
    let before = g.Q.Purse.tickets c.args.purse.now in
    let after = g.Q.Purse.tickets c.search.new.purse in
    let ms = c.args.marks.now in
    IfOk-weaker c.search.result (λ _. PaidFor before after cs cs') (λ _. Draws before after (length (learned_of ms cs') - length (learned_of ms cs)))
    (λ x paid. draws_learned (length (g.P.Propagator.trail c.args.inner.now).values.items) ms cs cs' c.args.assumptions.now before after
    c.requires.keeps.known c.search.ensures.learned paid)
    c.search.ensures.paid

pub returns-clause-log : goal.returns-clause-log
returns-clause-log g c =
    pays_learned (length (g.P.Propagator.trail c.args.inner.now).values.items) (length (g.P.Propagator.trail c.search.new.inner).values.items) c.args.marks.now
    (g.P.Propagator.clauses c.args.inner.now) (g.P.Propagator.clauses c.search.new.inner) c.args.assumptions.now
    (g.Q.Purse.tickets c.args.purse.now) (g.Q.Purse.tickets c.search.new.purse) c.requires.keeps.known c.search.ensures.log
