use Rattle.std.proofs.Common.{◌∙◌, refl, sym, subst}
use Rattle.std.specs.Prelude.{nat_eq}
use Rattle.clause_core.specs.Systems.{TransitionSystem}
use Rattle.frame_core.specs.FrameLaw.{system_at}
use Rattle.frame_solver.specs.Paying.{Steps}
use Rattle.frame_solver.specs.Recalling.{TellsStep}
use Rattle.frame_solver.proofs.Paid.{none_asked, none_same, one_sub}
use Rattle.frame_solver.proofs.Recalled.{is_one, tells_step}
use Rattle.frame_solver.proofs.querying.steps_of.Goals as goal

pub returns-in_err-values-clause-pays : goal.returns-in_err-values-clause-pays
returns-in_err-values-clause-pays g c = none_same c.args.systems.now c.args.lemmas.now (Steps c.args.level c.args.clause.now) _ _ _ _ refl refl

pub returns-in-Some-clause-pays : goal.returns-in-Some-clause-pays
returns-in-Some-clause-pays g c = none_same c.args.systems.now c.args.lemmas.now (Steps c.args.level c.args.clause.now) _ _ _ _ refl refl

pub returns-in_err-prepare_steps-clause-pays : goal.returns-in_err-prepare_steps-clause-pays
returns-in_err-prepare_steps-clause-pays g c =
    none_asked c.args.systems.now c.args.lemmas.now (Steps c.args.level c.args.clause.now) _ _ _ _ c.prepare_steps.ensures.known refl

pub returns-in_err-found-clause-pays : goal.returns-in_err-found-clause-pays
returns-in_err-found-clause-pays g c =
    one_sub c.args.systems.now c.args.lemmas.now (Steps c.args.level c.args.clause.now) _ c.prepare_steps.new.engine.solver.learned _ _ _ c.prepare_steps.ensures.known c.query_steps.ensures.pays

pub note_step-requires : goal.note_step-requires
note_step-requires g c =
    let sys = system_at c.args.systems.now 0 in
    let S : TransitionSystem → Type 0 = λ s. TellsStep s (nat_eq c.args.level 1) c.in_ok-found.found in
    subst S (sym (c.step_out.ensures.same ∙ c.requires.known))
    (tells_step sys c.args.lemmas.now c.args.level c.args.clause.now (g.Q.Purse.budget c.args.purse.now) (g.Q.Purse.spent c.query_steps.new.purse)
    (nat_eq c.args.level 1) c.in_ok-found.found (is_one c.args.level) c.in_ok-found.ensures.found)

pub returns-in_err-note_step-clause-pays : goal.returns-in_err-note_step-clause-pays
returns-in_err-note_step-clause-pays g c =
    one_sub c.args.systems.now c.args.lemmas.now (Steps c.args.level c.args.clause.now) _ c.prepare_steps.new.engine.solver.learned _ _ _ c.prepare_steps.ensures.known c.query_steps.ensures.pays

pub returns-clause-pays : goal.returns-clause-pays
returns-clause-pays g c =
    one_sub c.args.systems.now c.args.lemmas.now (Steps c.args.level c.args.clause.now) _ c.prepare_steps.new.engine.solver.learned _ _ _ c.prepare_steps.ensures.known c.query_steps.ensures.pays
