use Rattle.std.proofs.Common.{◌-◌, ◌∙◌, ℕ, List, ap, sym, subst}
use Rattle.clause_core.specs.declared.literal.Lit.{Lit}
use Rattle.clause_core.specs.Systems.{TransitionSystem}
use Rattle.frame_core.specs.declared.parts.Parent.{Parent}
use Rattle.frame_core.specs.Facts.{IsPart, IsProved, ProvedClause}
use Rattle.frame_core.specs.FrameLaw.{system_at, AllStand}
use Rattle.frame_query.specs.Dropping.{AllNeeded}
use Rattle.frame_query.specs.Trying.{proof_of}
use Rattle.frame_query.proofs.dropping.generalise_in.Goals as goal

pub finished-requires : goal.finished-requires
finished-requires g c =
    let draft = c.in-Done.draft in
    let P : TransitionSystem → Type 0 = λ s. IsProved (proof_of s c.level-level.result draft) in
    let N : ℕ → Type 0 = λ k. IsProved (proof_of (system_at c.args.systems.now 0) k draft) in
    subst P (sym c.system_of-system.ensures.value) (subst N (sym c.level-level.ensures) (rw c.in-Done.is at c.in-Ok.ensures.ends).0)

pub returns-in-Done-clause-found : goal.returns-in-Done-clause-found
returns-in-Done-clause-found g c =
    let sys = system_at c.args.systems.now 0 in
    let lemmas = c.args.lemmas.now in
    let given = c.args.given in
    let ends = rw c.in-Done.is at c.in-Ok.ensures.ends in
    let is = c.finished.ensures in
    let clause = ap (λ (p : ProvedClause). p.clause) is in
    let P : List Lit → Type 0 = λ xs. IsPart xs given.clause in
    let N : List Lit → Type 0 = λ xs. AllNeeded sys lemmas given.level given.clause xs xs in
    let S : List Parent → Type 0 = AllStand lemmas (given.level - 1) in
    record {
      system = ap (λ (p : ProvedClause). p.system) is ∙ c.system_of-system.ensures.value ∙ sym c.requires.system;
      level = ap (λ (p : ProvedClause). p.level) is ∙ c.level-level.ensures;
      part = subst P (sym clause) ends.1;
      needed = subst N (sym clause) ends.2;
      stands = λ s. subst S (sym (ap (λ (p : ProvedClause). p.parents) is)) (ends.3 s);
    }

pub returns-in-Done-clause-pays : goal.returns-in-Done-clause-pays
returns-in-Done-clause-pays g c = c.generalised.ensures.pays

pub returns-in-Done-clause-steps : goal.returns-in-Done-clause-steps
returns-in-Done-clause-steps g c = c.generalised.ensures.steps

pub returns-in-Done-clause-states : goal.returns-in-Done-clause-states
returns-in-Done-clause-states g c = c.generalised.ensures.states

pub returns-in-Done-clause-known : goal.returns-in-Done-clause-known
returns-in-Done-clause-known g c = c.generalised.ensures.known

pub returns-in-Done-clause-kept : goal.returns-in-Done-clause-kept
returns-in-Done-clause-kept g c = c.generalised.ensures.kept

pub returns-in-Done-clause-ready : goal.returns-in-Done-clause-ready
returns-in-Done-clause-ready g c = c.generalised.ensures.ready

pub returns-in-Done-clause-budget : goal.returns-in-Done-clause-budget
returns-in-Done-clause-budget g c = c.generalised.ensures.budget

pub returns-clause-pays : goal.returns-clause-pays
returns-clause-pays g c = c.generalised.ensures.pays

pub returns-clause-steps : goal.returns-clause-steps
returns-clause-steps g c = c.generalised.ensures.steps

pub returns-clause-states : goal.returns-clause-states
returns-clause-states g c = c.generalised.ensures.states

pub returns-clause-known : goal.returns-clause-known
returns-clause-known g c = c.generalised.ensures.known

pub returns-clause-kept : goal.returns-clause-kept
returns-clause-kept g c = c.generalised.ensures.kept

pub returns-clause-ready : goal.returns-clause-ready
returns-clause-ready g c = c.generalised.ensures.ready

pub returns-clause-budget : goal.returns-clause-budget
returns-clause-budget g c = c.generalised.ensures.budget

pub generalised-requires-clause-some : goal.generalised-requires-clause-some
generalised-requires-clause-some g c = c.requires.some

pub generalised-requires-clause-alike : goal.generalised-requires-clause-alike
generalised-requires-clause-alike g c = c.requires.alike

pub generalised-requires-clause-lemmas : goal.generalised-requires-clause-lemmas
generalised-requires-clause-lemmas g c = c.requires.lemmas

pub generalised-requires-clause-steps : goal.generalised-requires-clause-steps
generalised-requires-clause-steps g c = c.requires.steps

pub generalised-requires-clause-states : goal.generalised-requires-clause-states
generalised-requires-clause-states g c = c.requires.states

pub generalised-requires-clause-system : goal.generalised-requires-clause-system
generalised-requires-clause-system g c = c.requires.system

pub generalised-requires-clause-known : goal.generalised-requires-clause-known
generalised-requires-clause-known g c = c.requires.known

pub generalised-requires-clause-ready : goal.generalised-requires-clause-ready
generalised-requires-clause-ready g c = c.requires.ready
