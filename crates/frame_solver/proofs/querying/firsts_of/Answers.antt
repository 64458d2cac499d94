use Rattle.std.proofs.Common.{refl, sym, subst}
use Rattle.clause_core.specs.Systems.{TransitionSystem}
use Rattle.frame_core.specs.FrameLaw.{system_at}
use Rattle.frame_solver.specs.Paying.{Firsts}
use Rattle.frame_solver.specs.Recalling.{KnowsFirsts, TellsFirsts}
use Rattle.frame_solver.proofs.Paid.{none_asked, none_same, one_sub}
use Rattle.frame_solver.proofs.Recalled.{knows_firsts, tells_firsts}
use Rattle.frame_solver.proofs.querying.firsts_of.Goals as goal

pub returns-in_err-answer-clause-pays : goal.returns-in_err-answer-clause-pays
returns-in_err-answer-clause-pays g c = none_same c.args.systems.now c.args.lemmas.now (Firsts c.args.clause.now) _ _ _ _ refl refl

pub returns-in-Some-clause-pays : goal.returns-in-Some-clause-pays
returns-in-Some-clause-pays g c = none_same c.args.systems.now c.args.lemmas.now (Firsts c.args.clause.now) _ _ _ _ refl refl

pub returns-in-Some-clause-found : goal.returns-in-Some-clause-found
returns-in-Some-clause-found g c =
    let sys = system_at c.args.systems.now 0 in
    let S : TransitionSystem → Type 0 = λ s. KnowsFirsts s c.args.clause.now c.in-Some.answer in
    knows_firsts sys c.args.clause.now (g.Q.Purse.budget c.args.purse.now) (g.Q.Purse.spent c.args.purse.now) c.in-Some.answer
    (subst S c.requires.known (rw c.in-Some.is at c.in_ok-answer.ensures))

pub returns-in_err-prepare_states-clause-pays : goal.returns-in_err-prepare_states-clause-pays
returns-in_err-prepare_states-clause-pays g c =
    none_asked c.args.systems.now c.args.lemmas.now (Firsts c.args.clause.now) _ _ _ _ c.prepare_states.ensures.known refl

pub returns-in_err-found-clause-pays : goal.returns-in_err-found-clause-pays
returns-in_err-found-clause-pays g c =
    one_sub c.args.systems.now c.args.lemmas.now (Firsts c.args.clause.now) _ c.prepare_states.new.engine.solver.learned _ _ _ c.prepare_states.ensures.known c.query_firsts.ensures.pays

pub note_firsts-requires : goal.note_firsts-requires
note_firsts-requires g c =
    let sys = system_at c.args.systems.now 0 in
    let S : TransitionSystem → Type 0 = λ s. TellsFirsts s c.in_ok-found.found in
    subst S (sym c.requires.known)
    (tells_firsts sys c.args.clause.now (g.Q.Purse.budget c.args.purse.now) (g.Q.Purse.spent c.query_firsts.new.purse) c.in_ok-found.found c.in_ok-found.ensures.found)

pub returns-in_err-note_firsts-clause-pays : goal.returns-in_err-note_firsts-clause-pays
returns-in_err-note_firsts-clause-pays g c =
    one_sub c.args.systems.now c.args.lemmas.now (Firsts c.args.clause.now) _ c.prepare_states.new.engine.solver.learned _ _ _ c.prepare_states.ensures.known c.query_firsts.ensures.pays

pub returns-clause-pays : goal.returns-clause-pays
returns-clause-pays g c =
    one_sub c.args.systems.now c.args.lemmas.now (Firsts c.args.clause.now) _ c.prepare_states.new.engine.solver.learned _ _ _ c.prepare_states.ensures.known c.query_firsts.ensures.pays
