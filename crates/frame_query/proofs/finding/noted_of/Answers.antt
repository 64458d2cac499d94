use Rattle.std.proofs.Common.{List, Bool, subst}
use Rattle.frame_core.specs.FrameLaw.{system_at}
use Rattle.frame_solver.specs.Firsts.{negation_of}
use Rattle.frame_solver.specs.Paying.{Firsts, PaysOne}
use Rattle.frame_query.proofs.finding.noted_of.Goals as goal

pub returns-clause-pays : goal.returns-clause-pays
returns-clause-pays g c =
    let P : List Bool → Type 0 = λ v. PaysOne c.args.systems.now c.args.lemmas.now c.args.engine.now.solver.learned c.flag_of.new.engine.solver.learned
    (g.Q.Purse.tickets c.args.purse.now) (g.Q.Purse.tickets c.flag_of.new.purse) (Firsts (negation_of v (system_at c.args.systems.now 0).state_bits)) in
    subst P c.values.ensures c.flag_of.ensures.pays

pub returns-clause-engine : goal.returns-clause-engine
returns-clause-engine g c = c.flag_of.ensures.engine

pub returns-clause-known : goal.returns-clause-known
returns-clause-known g c = c.flag_of.ensures.known

pub returns-clause-kept : goal.returns-clause-kept
returns-clause-kept g c = c.flag_of.ensures.kept

pub returns-clause-ready : goal.returns-clause-ready
returns-clause-ready g c = c.flag_of.ensures.ready

pub returns-clause-budget : goal.returns-clause-budget
returns-clause-budget g c = c.flag_of.ensures.budget
