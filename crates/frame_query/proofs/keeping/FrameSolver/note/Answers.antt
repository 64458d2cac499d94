use Rattle.std.proofs.Common.{◌∙◌, List, subst}
use Rattle.std.specs.Result.{IfOk}
use Rattle.frame_core.specs.declared.parts.Lemma.{Lemma}
use Rattle.frame_core.specs.FrameLaw.{system_at}
use Rattle.frame_solver.specs.Engines.{IsLoaded, known_of}
use Rattle.frame_solver.specs.Groups.{base, state_heads, clauses_of}
use Rattle.frame_solver.specs.Firsts.{negation_of}
use Rattle.frame_query.specs.Findings.{SolverView, FindsNoted}
use Rattle.frame_solver.specs.Paying.{Firsts, PaysOne}
use Rattle.frame_solver.proofs.Paid.{one_right}
use Rattle.frame_query.proofs.keeping.FrameSolver.note.Goals as goal

pub returns-clause-pays : goal.returns-clause-pays
returns-clause-pays g c =
    let before = g.Q.Purse.tickets c.args.purse.now in
    let after = g.Q.Purse.tickets c.noted_of.new.purse in
    let new = c.noted_of.new.engine.solver.learned in
    let old = c.self.inside.states.solver.learned in
    let side = c.self.inside.steps.solver.learned in
    let systems = c.self.inside.systems.now in
    let lemmas = c.self.inside.lemmas in
    let K : SolverView → Type 0 = λ v. PaysOne v.systems v.lemmas v.known (known_of c.self.inside.steps c.noted_of.new.engine) before after (Firsts (negation_of c.args.step.values (system_at v.systems 0).state_bits)) in
    let L : List Lemma → Type 0 = λ xs. PaysOne systems xs old new before after (Firsts (negation_of c.args.step.values (system_at systems 0).state_bits)) in
    subst K c.self.view_is (one_right systems lemmas old new side before after (Firsts (negation_of c.args.step.values (system_at systems 0).state_bits)) (subst L c.as_slice.ensures c.noted_of.ensures.pays))

pub returns-clause-found : goal.returns-clause-found
returns-clause-found g c =
    let budget = g.Q.Purse.budget c.args.purse.now in
    let over = g.Q.Purse.spent c.noted_of.new.purse in
    let K : SolverView → Type 0 = λ v. IfOk c.noted_of.result (FindsNoted c.args.step budget over) in
    let L : List Lemma → Type 0 = λ xs. IfOk c.noted_of.result (FindsNoted c.args.step budget over) in
    subst K c.self.view_is (subst L c.as_slice.ensures c.noted_of.ensures.found)

pub invariant_of-self : goal.invariant_of-self
invariant_of-self g c =
    let E : List Lemma → Type 0 = λ xs. IsLoaded (base (system_at c.self.inside.systems.now 0)) (state_heads c.self.inside.systems.now) (clauses_of xs) c.noted_of.new.engine in
    record {
      some = c.self.invariant.some;
      alike = c.self.invariant.alike;
      within = c.self.invariant.within;
      for_steps = c.self.invariant.for_steps;
      for_states = subst E c.as_slice.ensures c.noted_of.ensures.engine;
      of_first = c.noted_of.ensures.known ∙ c.self.invariant.of_first;
      again = c.self.invariant.again;
    }

pub returns-clause-kept : goal.returns-clause-kept
returns-clause-kept g c = c.noted_of.ensures.kept

pub returns-clause-ready : goal.returns-clause-ready
returns-clause-ready g c = c.noted_of.ensures.ready

pub returns-clause-budget : goal.returns-clause-budget
returns-clause-budget g c = c.noted_of.ensures.budget
