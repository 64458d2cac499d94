use Rattle.std.proofs.Common.{◌≡◌, ◌∙◌, List, subst, sym}
use Rattle.frame_core.specs.declared.parts.Lemma.{Lemma}
use Rattle.frame_core.specs.FrameLaw.{system_at}
use Rattle.frame_solver.specs.Engines.{IsLoaded, known_of}
use Rattle.frame_solver.specs.Groups.{base, step_heads, state_heads, clauses_of}
use Rattle.frame_query.specs.Findings.{SolverView}
use Rattle.frame_query.specs.Dropping.{Generalises, PaysParts}
use Rattle.frame_query.proofs.keeping.FrameSolver.generalise.Goals as goal

pub returns-clause-pays : goal.returns-clause-pays
returns-clause-pays g c =
    let before = g.Q.Purse.tickets c.args.purse.now in
    let after = g.Q.Purse.tickets c.generalise_in.new.purse in
    let old = known_of c.self.inside.steps c.self.inside.states in
    let new = known_of c.generalise_in.new.steps c.generalise_in.new.states in
    let p = c.args.proved in
    let K : SolverView → Type 0 = λ v. PaysParts v.systems v.lemmas v.known new before after p.level p.clause in
    let L : List Lemma → Type 0 = λ xs. PaysParts c.self.inside.systems.now xs old new before after p.level p.clause in
    subst K c.self.view_is (subst L c.as_slice.ensures c.generalise_in.ensures.pays)

pub returns-clause-found : goal.returns-clause-found
returns-clause-found g c =
    let budget = g.Q.Purse.budget c.args.purse.now in
    let over = g.Q.Purse.spent c.generalise_in.new.purse in
    let K : SolverView → Type 0 = λ v. Generalises (system_at v.systems 0) v.lemmas c.args.proved budget over c.generalise_in.result in
    let L : List Lemma → Type 0 = λ xs. Generalises (system_at c.self.inside.systems.now 0) xs c.args.proved budget over c.generalise_in.result in
    subst K c.self.view_is (subst L c.as_slice.ensures c.generalise_in.ensures.found)

pub generalise_in-requires-clause-system : goal.generalise_in-requires-clause-system
generalise_in-requires-clause-system g c =
    let K : SolverView → Type 0 = λ v. c.args.proved.system ≡ system_at v.systems 0 in
    subst K (sym c.self.view_is) c.requires.system

pub invariant_of-self : goal.invariant_of-self
invariant_of-self g c =
    let systems = c.self.inside.systems.now in
    let sys = system_at systems 0 in
    let E : List Lemma → Type 0 = λ xs. IsLoaded (base sys) (step_heads sys) (clauses_of xs) c.generalise_in.new.steps in
    let F : List Lemma → Type 0 = λ xs. IsLoaded (base sys) (state_heads systems) (clauses_of xs) c.generalise_in.new.states in
    record {
      some = c.self.invariant.some;
      alike = c.self.invariant.alike;
      within = c.self.invariant.within;
      for_steps = subst E c.as_slice.ensures c.generalise_in.ensures.steps;
      for_states = subst F c.as_slice.ensures c.generalise_in.ensures.states;
      of_first = c.generalise_in.ensures.known ∙ c.self.invariant.of_first;
      again = c.self.invariant.again;
    }

pub returns-clause-kept : goal.returns-clause-kept
returns-clause-kept g c = c.generalise_in.ensures.kept

pub returns-clause-ready : goal.returns-clause-ready
returns-clause-ready g c = c.generalise_in.ensures.ready

pub returns-clause-budget : goal.returns-clause-budget
returns-clause-budget g c = c.generalise_in.ensures.budget
