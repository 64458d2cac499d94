use Rattle.std.proofs.Common.{◌∙◌, Bool, List, subst}
use Rattle.std.specs.Result.{IfOk}
use Rattle.std.proofs.lemmas.Result.{IfOk-from_err}
use Rattle.frame_core.specs.declared.parts.Lemma.{Lemma}
use Rattle.frame_core.specs.FrameLaw.{system_at}
use Rattle.frame_solver.specs.Engines.{IsLoaded, known_of}
use Rattle.frame_solver.specs.Groups.{base, state_heads, clauses_of}
use Rattle.frame_query.specs.Findings.{SolverView, FindsBad, IsTheState, PaysBad}
use Rattle.frame_query.proofs.PaidBad.{bad_right}
use Rattle.frame_query.proofs.keeping.FrameSolver.bad.Goals as goal

pub returns-in_err-found-clause-pays : goal.returns-in_err-found-clause-pays
returns-in_err-found-clause-pays g c =
    let before = g.Q.Purse.tickets c.args.purse.now in
    let after = g.Q.Purse.tickets c.bad_of.new.purse in
    let new = c.bad_of.new.engine.solver.learned in
    let old = c.self.inside.states.solver.learned in
    let side = c.self.inside.steps.solver.learned in
    let systems = c.self.inside.systems.now in
    let lemmas = c.self.inside.lemmas in
    let T : List Bool → Type 0 = λ _. Unit {0} in
    let S : List Bool → Type 0 = λ v. IfOk c.from_residual.result (IsTheState v) in
    let K : SolverView → Type 0 = λ v. PaysBad v.systems v.lemmas v.known (known_of c.self.inside.steps c.bad_of.new.engine) before after c.args.j c.args.top S in
    let L : List Lemma → Type 0 = λ xs. PaysBad systems xs old new before after c.args.j c.args.top T in
    subst K c.self.view_is (bad_right systems lemmas c.args.j c.args.top old new side before after T S (λ v h. IfOk-from_err c.from_residual.result (IsTheState v) c.from_residual.ensures.0) (subst L c.as_slice.ensures c.in_err-found.ensures.pays))

pub returns-clause-pays : goal.returns-clause-pays
returns-clause-pays g c =
    let before = g.Q.Purse.tickets c.args.purse.now in
    let after = g.Q.Purse.tickets c.bad_of.new.purse in
    let new = c.bad_of.new.engine.solver.learned in
    let old = c.self.inside.states.solver.learned in
    let side = c.self.inside.steps.solver.learned in
    let systems = c.self.inside.systems.now in
    let lemmas = c.self.inside.lemmas in
    let T : List Bool → Type 0 = λ v. IsTheState v c.in_ok-found.found in
    let S : List Bool → Type 0 = λ v. IsTheState v c.in_ok-found.found in
    let K : SolverView → Type 0 = λ v. PaysBad v.systems v.lemmas v.known (known_of c.self.inside.steps c.bad_of.new.engine) before after c.args.j c.args.top S in
    let L : List Lemma → Type 0 = λ xs. PaysBad systems xs old new before after c.args.j c.args.top T in
    subst K c.self.view_is (bad_right systems lemmas c.args.j c.args.top old new side before after T S (λ v h. h) (subst L c.as_slice.ensures c.in_ok-found.ensures.pays))

pub returns-clause-found : goal.returns-clause-found
returns-clause-found g c =
    let budget = g.Q.Purse.budget c.args.purse.now in
    let over = g.Q.Purse.spent c.bad_of.new.purse in
    let K : SolverView → Type 0 = λ v. FindsBad v.systems v.lemmas c.args.j c.args.top budget over c.in_ok-found.found in
    let L : List Lemma → Type 0 = λ xs. FindsBad c.self.inside.systems.now xs c.args.j c.args.top budget over c.in_ok-found.found in
    subst K c.self.view_is (subst L c.as_slice.ensures c.in_ok-found.ensures.found)

pub returns-in_err-found-clause-kept : goal.returns-in_err-found-clause-kept
returns-in_err-found-clause-kept g c = c.bad_of.ensures.kept

pub returns-in_err-found-clause-ready : goal.returns-in_err-found-clause-ready
returns-in_err-found-clause-ready g c = c.bad_of.ensures.ready

pub returns-in_err-found-clause-budget : goal.returns-in_err-found-clause-budget
returns-in_err-found-clause-budget g c = c.bad_of.ensures.budget

pub returns-clause-kept : goal.returns-clause-kept
returns-clause-kept g c = c.bad_of.ensures.kept

pub returns-clause-ready : goal.returns-clause-ready
returns-clause-ready g c = c.bad_of.ensures.ready

pub returns-clause-budget : goal.returns-clause-budget
returns-clause-budget g c = c.bad_of.ensures.budget

pub invariant_of-self : goal.invariant_of-self
invariant_of-self g c =
    let systems = c.self.inside.systems.now in
    let E : List Lemma → Type 0 = λ xs. IsLoaded (base (system_at systems 0)) (state_heads systems) (clauses_of xs) c.bad_of.new.engine in
    record {
      some = c.self.invariant.some;
      alike = c.self.invariant.alike;
      within = c.self.invariant.within;
      for_steps = c.self.invariant.for_steps;
      for_states = subst E c.as_slice.ensures c.bad_of.ensures.engine;
      of_first = c.bad_of.ensures.known ∙ c.self.invariant.of_first;
      again = c.self.invariant.again;
    }
