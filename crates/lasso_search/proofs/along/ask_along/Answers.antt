use Rattle.std.proofs.Common.{length, List, sym, subst}
use Rattle.std.specs.Prelude.{Contains}
use Rattle.clause_core.specs.declared.literal.Lit.{Lit}
use Rattle.clause_core.specs.Literals.{Within}
use Rattle.lasso_search.specs.declared.plan.Plan.{Plan}
use Rattle.lasso_search.specs.Searches.{Tells}
use Rattle.lasso_search.specs.declared.searched.Searched.TheVariants.{Found}
use Rattle.lasso_search.proofs.Answers.{finds_along}
use Rattle.lasso_search.proofs.Loaded.{closing_within, closing_is}
use Rattle.lasso_search.proofs.along.ask_along.Goals as goal

pub add_states-requires : goal.add_states-requires
add_states-requires g c =
    let e = c.args.engine.now in
    let within : Within e.solver.vars c.in_ok-literals.literals.items =
    closing_within c.args.system.now c.law.ensures e.steps e.solver.vars c.requires.loaded.fits c.args.plan.now c.requires.plan
    (length c.args.states.now) c.in_ok-literals.literals.items c.requires.steps c.in_ok-literals.ensures in
    record { within = subst (λ n. Within n c.in_ok-literals.literals.items) (sym c.vars.ensures) within }

pub returns-in-Found-clause-found : goal.returns-in-Found-clause-found
returns-in-Found-clause-found g c =
    let m = c.args.system.now in
    let n = length c.args.states.now in
    let e = c.args.engine.now in
    let answer = c.in_ok-answer.answer in
    let literals = c.in_ok-literals.literals.items in
    let is = closing_is m n c.args.plan.now literals c.requires.plan c.in_ok-literals.ensures in
    let told = rw c.in-Found.is at c.in_ok-lasso.ensures in
    let told' = subst (λ (p : Plan). Tells p n answer (Found c.in-Found.lasso)) c.requires.plan told in
    finds_along m e.steps n c.law.ensures c.requires.steps e.solver.vars e.solver.given c.solve.new.self.learned c.deref.result.now answer c.in-Found.lasso
    (g.Q.Purse.budget c.args.purse.now) (g.Q.Purse.spent c.solve.new.purse) c.requires.loaded.given
    (λ x here. subst (λ (ls : List Lit). Contains ls x) (sym c.deref.ensures.value)
    (c.in_ok-add_states.ensures.kept x (subst (λ (ls : List Lit). Contains ls x) (sym is) here)))
    c.in_ok-answer.ensures.answer told'
