use Rattle.std.proofs.Common.{◌++◌, Bool, List, length, subst}
use Rattle.std.specs.Result.{IfOk}
use Rattle.clause_core.specs.declared.literal.Lit.{Lit}
use Rattle.sat_core.specs.Queries.{State, AnswerSays, IsSound, IsRefutedAtOnce, CostsOneTicket, IsRefutedForOne, state_of, learned_of}
use Rattle.sat_core.specs.Paying.{PaysForOne}
use Rattle.sat_core.proofs.solver.Solver.solve.Goals as goal

pub returns-clause-answer : goal.returns-clause-answer
returns-clause-answer g c =
    let says : State → List (List Lit) → Type 0 = λ s learned.
    IfOk c.ask.result (AnswerSays s.vars s.given learned c.args.assumptions.now (g.Q.Purse.budget c.args.purse.now) (g.Q.Purse.spent c.ask.new.purse)) in
    let old : List Bool → State = λ ms. state_of (length (g.P.Propagator.trail c.self.inside.inner).values.items) ms (g.P.Propagator.clauses c.self.inside.inner) in
    let learned : List Bool → List (List Lit) = λ ms. learned_of ms (g.P.Propagator.clauses c.ask.new.inner) in
    let M : List Bool → Type 0 = λ ms. says (old ms) (learned ms) in
    let V : State → Type 0 = λ s. says s (learned c.self.inside.marks.items) in
    subst V c.self.view_is (subst M c.deref.ensures.value c.ask.ensures.says)

pub returns-clause-sound : goal.returns-clause-sound
returns-clause-sound g c =
    let M : List Bool → Type 0 = λ ms. IsSound (state_of (length (g.P.Propagator.trail c.ask.new.inner).values.items) ms (g.P.Propagator.clauses c.ask.new.inner)) in
    subst M c.deref.ensures.value c.ask.ensures.keeps.sound

pub returns-clause-log : goal.returns-clause-log
returns-clause-log g c =
    let old : List Bool → State = λ ms. state_of (length (g.P.Propagator.trail c.self.inside.inner).values.items) ms (g.P.Propagator.clauses c.self.inside.inner) in
    let new : List Bool → State = λ ms. state_of (length (g.P.Propagator.trail c.ask.new.inner).values.items) ms (g.P.Propagator.clauses c.ask.new.inner) in
    let pays : State → State → Type 0 = λ s t. PaysForOne s c.args.assumptions.now t (g.Q.Purse.tickets c.args.purse.now) (g.Q.Purse.tickets c.ask.new.purse) in
    let M : List Bool → Type 0 = λ ms. pays (old ms) (new ms) in
    let V : State → Type 0 = λ s. pays s (new c.self.inside.marks.items) in
    subst V c.self.view_is (subst M c.deref.ensures.value c.ask.ensures.log)

pub returns-clause-at_once : goal.returns-clause-at_once
returns-clause-at_once g c =
    let old : List Bool → State = λ ms. state_of (length (g.P.Propagator.trail c.self.inside.inner).values.items) ms (g.P.Propagator.clauses c.self.inside.inner) in
    let new : List Bool → State = λ ms. state_of (length (g.P.Propagator.trail c.ask.new.inner).values.items) ms (g.P.Propagator.clauses c.ask.new.inner) in
    let before = g.Q.Purse.tickets c.args.purse.now in
    let after = g.Q.Purse.tickets c.ask.new.purse in
    let once : State → State → Type 0 = λ s t.
    IsRefutedAtOnce (s.given ++ s.learned) c.args.assumptions.now → CostsOneTicket s t before after × IfOk c.ask.result (IsRefutedForOne before after) in
    let M : List Bool → Type 0 = λ ms. once (old ms) (new ms) in
    let V : State → Type 0 = λ s. once s (new c.self.inside.marks.items) in
    subst V c.self.view_is (subst M c.deref.ensures.value c.ask.ensures.at_once)
