use Rattle.std.proofs.Common.{◌++◌, length, refl, ap, inl, inr}
use Rattle.std.proofs.lemmas.Result.{IfOk-weaker}
use Rattle.sat_core.specs.Queries.{State, given_of, learned_of, state_of, Draws, IsUnsat, IsRefutedForOne}
use Rattle.sat_core.proofs.Origins.{both_in}
use Rattle.sat_core.proofs.Payments.{pays_nothing, pays_query}
use Rattle.sat_core.proofs.Refuting.{at_once_more, draws_one}
use Rattle.sat_core.proofs.Results.{state_same}
use Rattle.sat_core.proofs.query.ask.Goals as goal

pub returns-in-Spent-clause-log : goal.returns-in-Spent-clause-log
returns-in-Spent-clause-log g c =
    let here : State = state_of (length (g.P.Propagator.trail c.args.inner.now).values.items) c.args.marks.now (g.P.Propagator.clauses c.args.inner.now) in
    pays_nothing here here c.args.assumptions.now (g.Q.Purse.tickets c.args.purse.now) (g.Q.Purse.tickets c.draw.new.self) refl c.in-Spent.ensures.drawn.2

pub returns-clause-log : goal.returns-clause-log
returns-clause-log g c =
    let old : State = state_of (length (g.P.Propagator.trail c.args.inner.now).values.items) c.args.marks.now (g.P.Propagator.clauses c.args.inner.now) in
    let new : State = state_of (length (g.P.Propagator.trail c.answer.new.inner).values.items) c.args.marks.now (g.P.Propagator.clauses c.answer.new.inner) in
    pays_query old new c.args.assumptions.now (g.Q.Purse.tickets c.args.purse.now) (g.Q.Purse.tickets c.draw.new.self) (g.Q.Purse.tickets c.answer.new.purse)
    c.in_default.field-0 c.in_default.ensures.drawn.2 c.answer.ensures.log

pub returns-in-Spent-clause-at_once : goal.returns-in-Spent-clause-at_once
returns-in-Spent-clause-at_once g c p = ((refl, inl c.in-Spent.ensures.drawn.2), inr (tt, c.in-Spent.ensures.drawn.2))

pub returns-clause-at_once : goal.returns-clause-at_once
returns-clause-at_once g c p =
    let ms = c.args.marks.now in
    let cs = g.P.Propagator.clauses c.args.inner.now in
    let cs' = g.P.Propagator.clauses c.answer.new.inner in
    let before = g.Q.Purse.tickets c.args.purse.now in
    let after = g.Q.Purse.tickets c.answer.new.purse in
    let q = c.answer.ensures.at_once (at_once_more (given_of ms cs ++ learned_of ms cs) cs c.args.assumptions.now (both_in ms cs) p) in
    let one : Draws before after 1 =
    draws_one before (g.Q.Purse.tickets c.draw.new.self) after c.in_default.field-0 c.in_default.ensures.drawn.2 q.1 in (
      (
        state_same (length (g.P.Propagator.trail c.answer.new.inner).values.items) (length (g.P.Propagator.trail c.args.inner.now).values.items)
            (given_of ms cs') (given_of ms cs) (learned_of ms cs') (learned_of ms cs) c.answer.ensures.learns.vars (ap (given_of ms) q.0) (ap (learned_of ms) q.0),
        inr one,
      ),
      IfOk-weaker c.answer.result IsUnsat (IsRefutedForOne before after) (λ a u. inl (u, one)) q.2,
    )
