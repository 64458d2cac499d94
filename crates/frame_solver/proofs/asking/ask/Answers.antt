use Rattle.std.proofs.Common.{refl, sym, subst, List, ◌+◌, length}
use Rattle.std.proofs.lemmas.Result.{IfOk-weaker}
use Rattle.clause_core.specs.declared.literal.Lit.{Lit}
use Rattle.clause_core.specs.Literals.{Within}
use Rattle.sat_core.specs.Queries.{AnswerSays}
use Rattle.frame_solver.specs.Asking.{AreAsked, AskSays}
use Rattle.frame_solver.proofs.Asked.{answered, asked_once, asked_within, asked_nothing}
use Rattle.frame_solver.proofs.asking.ask.Goals as goal

pub solve-requires-clause-within : goal.solve-requires-clause-within
solve-requires-clause-within g c =
    let e = c.args.engine.now in
    let n = e.heads + length c.args.lemmas.now in
    let P : List Lit → Type 0 = Within e.solver.vars in
    subst P (sym c.deref.ensures.value)
    (asked_within e.base e.heads c.args.lemmas.now c.args.i c.args.also c.args.extra.now e.solver.vars n c.in_ok-literals.literals.items
    c.requires.fits c.requires.extra c.in_ok-literals.ensures)

pub returns-clause-answer : goal.returns-clause-answer
returns-clause-answer g c =
    let e = c.args.engine.now in
    let s = e.solver in
    let n = e.heads + length c.args.lemmas.now in
    let budget = g.Q.Purse.budget c.args.purse.now in
    let over = g.Q.Purse.spent c.solve.new.purse in
    let P : List Lit → Type 0 = AreAsked e.base e.heads c.args.lemmas.now c.args.i c.args.also n c.args.extra.now in
    let asked = subst P (sym c.deref.ensures.value) c.in_ok-literals.ensures in
    IfOk-weaker c.solve.result (AnswerSays s.vars s.given c.solve.new.self.learned c.deref.result.now budget over)
    (AskSays s e.base e.heads c.args.lemmas.now c.args.i c.args.also n c.args.extra.now budget over)
    (λ answer said. answered e.base e.heads c.args.lemmas.now c.args.i c.args.also c.args.extra.now s c.solve.new.self.learned n c.deref.result.now asked budget over answer said)
    c.solve.ensures.answer

pub returns-clause-asked : goal.returns-clause-asked
returns-clause-asked g c =
    let e = c.args.engine.now in
    let n = e.heads + length c.args.lemmas.now in
    let P : List Lit → Type 0 = AreAsked e.base e.heads c.args.lemmas.now c.args.i c.args.also n c.args.extra.now in
    asked_once e.base e.heads c.args.lemmas.now c.args.i c.args.also n c.args.extra.now c.deref.result.now e.solver c.solve.new.self
    (g.Q.Purse.tickets c.args.purse.now) (g.Q.Purse.tickets c.solve.new.purse) (subst P (sym c.deref.ensures.value) c.in_ok-literals.ensures) c.solve.ensures.log

pub returns-in_err-literals-clause-asked : goal.returns-in_err-literals-clause-asked
returns-in_err-literals-clause-asked g c =
    let e = c.args.engine.now in
    asked_nothing e.base e.heads c.args.lemmas.now c.args.i c.args.also (e.heads + length c.args.lemmas.now) c.args.extra.now e.solver e.solver _ _ refl refl
