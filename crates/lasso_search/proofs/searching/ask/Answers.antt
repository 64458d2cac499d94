use Rattle.std.proofs.Common.{◌-◌, length, ◌∙◌, subst}
use Rattle.std.proofs.lemmas.Result.{IfOk-weaker}
use Rattle.lasso_search.specs.declared.plan.Plan.{Plan}
use Rattle.lasso_search.specs.Searches.{Tells}
use Rattle.lasso_search.proofs.Answers.{finds}
use Rattle.lasso_search.proofs.Loaded.{closing_within, closing_is}
use Rattle.lasso_search.proofs.Paid.{pays_same, pays_query, is_asked}
use Rattle.lasso_search.proofs.searching.ask.Goals as goal

pub returns-in_err-literals-clause-pays : goal.returns-in_err-literals-clause-pays
returns-in_err-literals-clause-pays g c =
    pays_same c.args.system.now c.args.states c.args.engine.now.solver.learned (g.Q.Purse.tickets c.args.purse.now)

pub solve-requires-clause-within : goal.solve-requires-clause-within
solve-requires-clause-within g c =
    let e = c.args.engine.now in
    closing_within c.args.system.now c.law.ensures e.steps e.solver.vars c.requires.loaded.fits c.args.plan.now c.requires.plan
    c.args.states c.deref.result.now c.requires.steps (c.deref.ensures.value ∙ c.in_ok-literals.ensures)

pub returns-in_err-answer-clause-pays : goal.returns-in_err-answer-clause-pays
returns-in_err-answer-clause-pays g c =
    let m = c.args.system.now in
    let e = c.args.engine.now in
    let assumes = closing_is m c.args.states c.args.plan.now c.deref.result.now c.requires.plan (c.deref.ensures.value ∙ c.in_ok-literals.ensures) in
    pays_query m e.steps c.args.states e.solver c.solve.new.self c.deref.result.now (g.Q.Purse.tickets c.args.purse.now)
    (g.Q.Purse.tickets c.solve.new.purse) c.requires.steps c.requires.loaded.given assumes c.solve.ensures.log

pub returns-clause-found : goal.returns-clause-found
returns-clause-found g c =
    let m = c.args.system.now in
    let e = c.args.engine.now in
    let answer = c.in_ok-answer.answer in
    let assumes = closing_is m c.args.states c.args.plan.now c.deref.result.now c.requires.plan (c.deref.ensures.value ∙ c.in_ok-literals.ensures) in
    IfOk-weaker c.searched.result _ _
    (λ found tells.
    let told = subst (λ (p : Plan). Tells p c.args.states answer found) c.requires.plan tells in
    finds m e.steps c.args.states c.law.ensures c.requires.steps e.solver.vars e.solver.given c.solve.new.self.learned c.deref.result.now answer found
    (g.Q.Purse.budget c.args.purse.now) (g.Q.Purse.spent c.solve.new.purse) c.requires.loaded.given assumes c.in_ok-answer.ensures.answer told)
    c.searched.ensures

pub returns-clause-asked : goal.returns-clause-asked
returns-clause-asked g c =
    let learned = length c.solve.new.self.learned - length c.args.engine.now.solver.learned in
    IfOk-weaker c.searched.result _ _
    (λ found tells.
    is_asked c.args.plan.now c.args.states learned c.in_ok-answer.answer found (g.Q.Purse.tickets c.args.purse.now)
    (g.Q.Purse.tickets c.solve.new.purse) c.in_ok-answer.ensures.tickets tells)
    c.searched.ensures

pub returns-clause-pays : goal.returns-clause-pays
returns-clause-pays g c =
    let m = c.args.system.now in
    let e = c.args.engine.now in
    let assumes = closing_is m c.args.states c.args.plan.now c.deref.result.now c.requires.plan (c.deref.ensures.value ∙ c.in_ok-literals.ensures) in
    pays_query m e.steps c.args.states e.solver c.solve.new.self c.deref.result.now (g.Q.Purse.tickets c.args.purse.now)
    (g.Q.Purse.tickets c.solve.new.purse) c.requires.steps c.requires.loaded.given assumes c.solve.ensures.log
