use Rattle.std.proofs.Common.{map, subst, refl, arith, ◌∙◌}
use Rattle.std.proofs.lemmas.Result.{IfOk-weaker}
use Rattle.clause_core.specs.Literals.{negate}
use Rattle.clause_core.specs.Systems.{TransitionSystem}
use Rattle.frame_core.specs.FrameLaw.{system_at}
use Rattle.frame_solver.specs.Groups.{state_heads}
use Rattle.frame_solver.specs.Firsts.{FindsFirsts, ReadsFirsts}
use Rattle.frame_solver.specs.Paying.{Firsts as AskFirsts}
use Rattle.frame_solver.proofs.FirstsOf.{found_by, negated_within}
use Rattle.frame_solver.proofs.Paid.{none_same, states_paid}
use Rattle.frame_solver.proofs.first_states.query_firsts.Goals as goal

pub returns-in_err-literals-clause-pays : goal.returns-in_err-literals-clause-pays
returns-in_err-literals-clause-pays g c =
    none_same c.args.systems.now c.args.lemmas.now (AskFirsts c.args.clause.now) _ _ _ _ refl refl

pub ask-requires-clause-extra : goal.ask-requires-clause-extra
ask-requires-clause-extra g c =
    negated_within (system_at c.args.systems.now 0) c.system_of-system.ensures.law c.args.engine.now.solver.vars c.args.clause.now c.deref.result.now
    (c.deref.ensures.value ∙ c.in_ok-literals.ensures) c.requires.within (omega (arith, c.requires.engine.room, c.requires.engine.fits))

pub returns-in_err-answer-clause-pays : goal.returns-in_err-answer-clause-pays
returns-in_err-answer-clause-pays g c =
    states_paid c.args.systems.now c.args.lemmas.now (AskFirsts c.args.clause.now) c.args.engine.now refl (λ own. refl) (map negate c.args.clause.now) (λ own. refl)
    c.requires.engine c.ask.new.engine.solver c.deref.result.now _ _ (c.deref.ensures.value ∙ c.in_ok-literals.ensures) c.ask.ensures.asked

pub returns-clause-found : goal.returns-clause-found
returns-clause-found g c =
    let sys = system_at c.args.systems.now 0 in
    let budget = g.Q.Purse.budget c.args.purse.now in
    let over = g.Q.Purse.spent c.ask.new.purse in
    let answer = c.in_ok-answer.answer in
    IfOk-weaker c.read.result (ReadsFirsts c.system_of-system.result.now c.args.clause.now answer) (FindsFirsts sys c.args.clause.now budget over)
    (λ found reads.
    let R : TransitionSystem → Type 0 = λ s. ReadsFirsts s c.args.clause.now answer found in
    found_by sys c.system_of-system.ensures.law (state_heads c.args.systems.now) (omega arith) refl c.args.lemmas.now c.args.engine.now c.requires.engine c.args.clause.now
    c.deref.result.now c.requires.within (c.deref.ensures.value ∙ c.in_ok-literals.ensures) budget over answer found c.in_ok-answer.ensures.answer
    (subst R c.system_of-system.ensures.value reads))
    c.read.ensures

pub returns-clause-pays : goal.returns-clause-pays
returns-clause-pays g c =
    states_paid c.args.systems.now c.args.lemmas.now (AskFirsts c.args.clause.now) c.args.engine.now refl (λ own. refl) (map negate c.args.clause.now) (λ own. refl)
    c.requires.engine c.ask.new.engine.solver c.deref.result.now _ _ (c.deref.ensures.value ∙ c.in_ok-literals.ensures) c.ask.ensures.asked
