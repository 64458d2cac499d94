use Rattle.std.proofs.Common.{◌+◌, ◌∙◌, List, subst, sym}
use Rattle.std.specs.Result.{IfOk}
use Rattle.frame_core.specs.declared.parts.Lemma.{Lemma}
use Rattle.frame_core.specs.FrameLaw.{system_at, lemma_at}
use Rattle.frame_solver.specs.Engines.{IsLoaded, known_of}
use Rattle.frame_solver.specs.Groups.{base, step_heads, clauses_of}
use Rattle.frame_solver.specs.Firsts.{AllFirstsMeet}
use Rattle.frame_solver.specs.Paying.{Steps, PaysOne}
use Rattle.frame_solver.proofs.Paid.{one_left}
use Rattle.frame_query.specs.Findings.{SolverView, FindsRelative}
use Rattle.frame_query.specs.KeptProofs.{AreKept}
use Rattle.frame_query.proofs.keeping.FrameSolver.push.Goals as goal

pub push_of-requires-clause-first : goal.push_of-requires-clause-first
push_of-requires-clause-first g c =
    let n = c.args.lemma in
    let K : SolverView → Type 0 = λ v. AllFirstsMeet (system_at v.systems 0) (lemma_at v.lemmas n).clause in
    let L : List Lemma → Type 0 = λ xs. AllFirstsMeet (system_at c.self.inside.systems.now 0) (lemma_at xs n).clause in
    subst L (sym c.as_slice.ensures) (subst K (sym c.self.view_is) c.requires.first)

pub push_of-requires-clause-proofs : goal.push_of-requires-clause-proofs
push_of-requires-clause-proofs g c =
    let L : List Lemma → Type 0 = λ xs. AreKept (system_at c.self.inside.systems.now 0) xs c.self.inside.proofs.items in
    subst L (sym c.as_slice.ensures) c.self.invariant.again

pub invariant_of-self : goal.invariant_of-self
invariant_of-self g c =
    let systems = c.self.inside.systems.now in
    let sys = system_at systems 0 in
    let E : List Lemma → Type 0 = λ xs. IsLoaded (base sys) (step_heads sys) (clauses_of xs) c.push_of.new.engine in
    let K : List Lemma → Type 0 = λ xs. AreKept sys xs c.push_of.new.proofs.items in
    record {
      some = c.self.invariant.some;
      alike = c.self.invariant.alike;
      within = c.self.invariant.within;
      for_steps = subst E c.as_slice.ensures c.push_of.ensures.engine;
      for_states = c.self.invariant.for_states;
      of_first = c.push_of.ensures.known ∙ c.self.invariant.of_first;
      again = subst K c.as_slice.ensures c.push_of.ensures.proofs;
    }

pub returns-clause-pays : goal.returns-clause-pays
returns-clause-pays g c =
    let before = g.Q.Purse.tickets c.args.purse.now in
    let after = g.Q.Purse.tickets c.push_of.new.purse in
    let new = c.push_of.new.engine.solver.learned in
    let old = c.self.inside.steps.solver.learned in
    let side = c.self.inside.states.solver.learned in
    let systems = c.self.inside.systems.now in
    let lemmas = c.self.inside.lemmas in
    let n = c.args.lemma in
    let K : SolverView → Type 0 = λ v. PaysOne v.systems v.lemmas v.known (known_of c.push_of.new.engine c.self.inside.states) before after
    (Steps ((lemma_at v.lemmas n).level + 1) (lemma_at v.lemmas n).clause) in
    let L : List Lemma → Type 0 = λ xs. PaysOne systems xs old new before after (Steps ((lemma_at xs n).level + 1) (lemma_at xs n).clause) in
    subst K c.self.view_is (one_left systems lemmas old new side before after (Steps ((lemma_at lemmas n).level + 1) (lemma_at lemmas n).clause)
    (subst L c.as_slice.ensures c.push_of.ensures.pays))

pub returns-clause-found : goal.returns-clause-found
returns-clause-found g c =
    let budget = g.Q.Purse.budget c.args.purse.now in
    let over = g.Q.Purse.spent c.push_of.new.purse in
    let systems = c.self.inside.systems.now in
    let n = c.args.lemma in
    let K : SolverView → Type 0 = λ v. IfOk c.push_of.result (FindsRelative v.systems v.lemmas (lemma_at v.lemmas n).clause ((lemma_at v.lemmas n).level + 1) budget over) in
    let L : List Lemma → Type 0 = λ xs. IfOk c.push_of.result (FindsRelative systems xs (lemma_at xs n).clause ((lemma_at xs n).level + 1) budget over) in
    subst K c.self.view_is (subst L c.as_slice.ensures c.push_of.ensures.found)
