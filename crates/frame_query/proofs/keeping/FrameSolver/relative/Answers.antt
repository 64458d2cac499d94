use Rattle.std.proofs.Common.{◌∙◌, List, subst, sym}
use Rattle.frame_core.specs.declared.parts.Lemma.{Lemma}
use Rattle.frame_core.specs.FrameLaw.{system_at}
use Rattle.frame_solver.specs.Engines.{IsLoaded, known_of}
use Rattle.frame_solver.specs.Groups.{base, step_heads, clauses_of}
use Rattle.frame_solver.specs.Firsts.{AllFirstsMeet}
use Rattle.frame_query.specs.Findings.{SolverView, FindsRelative}
use Rattle.frame_solver.specs.Paying.{Steps, PaysOne}
use Rattle.frame_solver.proofs.Paid.{one_left}
use Rattle.frame_query.proofs.keeping.FrameSolver.relative.Goals as goal

pub returns-in_err-found-clause-pays : goal.returns-in_err-found-clause-pays
returns-in_err-found-clause-pays g c =
    let before = g.Q.Purse.tickets c.args.purse.now in
    let after = g.Q.Purse.tickets c.relative_of.new.purse in
    let new = c.relative_of.new.engine.solver.learned in
    let old = c.self.inside.steps.solver.learned in
    let side = c.self.inside.states.solver.learned in
    let systems = c.self.inside.systems.now in
    let lemmas = c.self.inside.lemmas in
    let K : SolverView → Type 0 = λ v. PaysOne v.systems v.lemmas v.known (known_of c.relative_of.new.engine c.self.inside.states) before after (Steps c.args.level c.args.clause.now) in
    let L : List Lemma → Type 0 = λ xs. PaysOne systems xs old new before after (Steps c.args.level c.args.clause.now) in
    subst K c.self.view_is (one_left systems lemmas old new side before after (Steps c.args.level c.args.clause.now) (subst L c.as_slice.ensures c.relative_of.ensures.pays))

pub returns-clause-pays : goal.returns-clause-pays
returns-clause-pays g c =
    let before = g.Q.Purse.tickets c.args.purse.now in
    let after = g.Q.Purse.tickets c.relative_of.new.purse in
    let new = c.relative_of.new.engine.solver.learned in
    let old = c.self.inside.steps.solver.learned in
    let side = c.self.inside.states.solver.learned in
    let systems = c.self.inside.systems.now in
    let lemmas = c.self.inside.lemmas in
    let K : SolverView → Type 0 = λ v. PaysOne v.systems v.lemmas v.known (known_of c.relative_of.new.engine c.self.inside.states) before after (Steps c.args.level c.args.clause.now) in
    let L : List Lemma → Type 0 = λ xs. PaysOne systems xs old new before after (Steps c.args.level c.args.clause.now) in
    subst K c.self.view_is (one_left systems lemmas old new side before after (Steps c.args.level c.args.clause.now) (subst L c.as_slice.ensures c.relative_of.ensures.pays))

pub returns-clause-found : goal.returns-clause-found
returns-clause-found g c =
    let budget = g.Q.Purse.budget c.args.purse.now in
    let over = g.Q.Purse.spent c.relative_of.new.purse in
    let K : SolverView → Type 0 = λ v. FindsRelative v.systems v.lemmas c.args.clause.now c.args.level budget over c.in_ok-found.found in
    let L : List Lemma → Type 0 = λ xs. FindsRelative c.self.inside.systems.now xs c.args.clause.now c.args.level budget over c.in_ok-found.found in
    subst K c.self.view_is (subst L c.as_slice.ensures c.in_ok-found.ensures.found)

pub relative_of-requires-clause-first : goal.relative_of-requires-clause-first
relative_of-requires-clause-first g c =
    let K : SolverView → Type 0 = λ v. AllFirstsMeet (system_at v.systems 0) c.args.clause.now in
    subst K (sym c.self.view_is) c.requires.first

pub invariant_of-self : goal.invariant_of-self
invariant_of-self g c =
    let sys = system_at c.self.inside.systems.now 0 in
    let E : List Lemma → Type 0 = λ xs. IsLoaded (base sys) (step_heads sys) (clauses_of xs) c.relative_of.new.engine in
    record {
      some = c.self.invariant.some;
      alike = c.self.invariant.alike;
      within = c.self.invariant.within;
      for_steps = subst E c.as_slice.ensures c.relative_of.ensures.engine;
      for_states = c.self.invariant.for_states;
      of_first = c.relative_of.ensures.known ∙ c.self.invariant.of_first;
      again = c.self.invariant.again;
    }

pub returns-in_err-found-clause-kept : goal.returns-in_err-found-clause-kept
returns-in_err-found-clause-kept g c = c.relative_of.ensures.kept

pub returns-in_err-found-clause-ready : goal.returns-in_err-found-clause-ready
returns-in_err-found-clause-ready g c = c.relative_of.ensures.ready

pub returns-in_err-found-clause-budget : goal.returns-in_err-found-clause-budget
returns-in_err-found-clause-budget g c = c.relative_of.ensures.budget

pub returns-clause-kept : goal.returns-clause-kept
returns-clause-kept g c = c.relative_of.ensures.kept

pub returns-clause-ready : goal.returns-clause-ready
returns-clause-ready g c = c.relative_of.ensures.ready

pub returns-clause-budget : goal.returns-clause-budget
returns-clause-budget g c = c.relative_of.ensures.budget
