use Rattle.std.proofs.Common.{◌+◌, List, Option, refl, sym, subst}
use Rattle.clause_core.specs.Systems.{TransitionSystem}
use Rattle.frame_core.specs.FrameLaw.{system_at, lemma_at}
use Rattle.frame_solver.specs.Paying.{Steps}
use Rattle.frame_solver.proofs.Paid.{none_same}
use Rattle.frame_query.specs.declared.kept_proofs.KeptProof.{KeptProof}
use Rattle.frame_query.specs.KeptProofs.{AreKept}
use Rattle.frame_query.proofs.pushing.push_of.Goals as goal

pub proof_again-requires-clause-kept : goal.proof_again-requires-clause-kept
proof_again-requires-clause-kept g c =
    let lemmas = c.args.lemmas.now in
    let S : TransitionSystem → Type 0 = λ s. AreKept s lemmas c.deref.result.now in
    let P : List (Option KeptProof) → Type 0 = AreKept (system_at c.args.systems.now 0) lemmas in
    subst S (sym c.system_of.ensures.value) (subst P (sym c.deref.ensures.value) c.requires.proofs)

pub returns-in_err-proved-clause-pays : goal.returns-in_err-proved-clause-pays
returns-in_err-proved-clause-pays g c =
    let l = lemma_at c.args.lemmas.now c.args.n in
    none_same c.args.systems.now c.args.lemmas.now (Steps (l.level + 1) l.clause) _ _ _ _ refl refl

pub returns-in-Some-clause-pays : goal.returns-in-Some-clause-pays
returns-in-Some-clause-pays g c =
    let l = lemma_at c.args.lemmas.now c.args.n in
    none_same c.args.systems.now c.args.lemmas.now (Steps (l.level + 1) l.clause) _ _ _ _ refl refl

pub returns-clause-found : goal.returns-clause-found
returns-clause-found g c = c.asked.ensures.found

pub returns-clause-pays : goal.returns-clause-pays
returns-clause-pays g c = c.asked.ensures.pays

pub returns-clause-engine : goal.returns-clause-engine
returns-clause-engine g c = c.asked.ensures.engine

pub returns-clause-known : goal.returns-clause-known
returns-clause-known g c = c.asked.ensures.known

pub returns-clause-proofs : goal.returns-clause-proofs
returns-clause-proofs g c = c.asked.ensures.proofs

pub returns-clause-kept : goal.returns-clause-kept
returns-clause-kept g c = c.asked.ensures.kept

pub returns-clause-ready : goal.returns-clause-ready
returns-clause-ready g c = c.asked.ensures.ready

pub returns-clause-budget : goal.returns-clause-budget
returns-clause-budget g c = c.asked.ensures.budget

pub returns-in_err-proved-clause-engine : goal.returns-in_err-proved-clause-engine
returns-in_err-proved-clause-engine g c = c.requires.engine

pub returns-in_err-proved-clause-known : goal.returns-in_err-proved-clause-known
returns-in_err-proved-clause-known g c = refl

pub returns-in_err-proved-clause-proofs : goal.returns-in_err-proved-clause-proofs
returns-in_err-proved-clause-proofs g c = c.requires.proofs

pub returns-in_err-proved-clause-kept : goal.returns-in_err-proved-clause-kept
returns-in_err-proved-clause-kept g c = g.met.Q.Purse.kept_refl c.args.purse.now

pub returns-in_err-proved-clause-ready : goal.returns-in_err-proved-clause-ready
returns-in_err-proved-clause-ready g c = c.requires.ready

pub returns-in_err-proved-clause-budget : goal.returns-in_err-proved-clause-budget
returns-in_err-proved-clause-budget g c = refl

pub returns-in-Some-clause-engine : goal.returns-in-Some-clause-engine
returns-in-Some-clause-engine g c = c.requires.engine

pub returns-in-Some-clause-known : goal.returns-in-Some-clause-known
returns-in-Some-clause-known g c = refl

pub returns-in-Some-clause-proofs : goal.returns-in-Some-clause-proofs
returns-in-Some-clause-proofs g c = c.requires.proofs

pub returns-in-Some-clause-kept : goal.returns-in-Some-clause-kept
returns-in-Some-clause-kept g c = g.met.Q.Purse.kept_refl c.args.purse.now

pub returns-in-Some-clause-ready : goal.returns-in-Some-clause-ready
returns-in-Some-clause-ready g c = c.requires.ready

pub returns-in-Some-clause-budget : goal.returns-in-Some-clause-budget
returns-in-Some-clause-budget g c = refl

pub asked-requires-clause-some : goal.asked-requires-clause-some
asked-requires-clause-some g c = c.requires.some

pub asked-requires-clause-lemmas : goal.asked-requires-clause-lemmas
asked-requires-clause-lemmas g c = c.requires.lemmas

pub asked-requires-clause-engine : goal.asked-requires-clause-engine
asked-requires-clause-engine g c = c.requires.engine

pub asked-requires-clause-number : goal.asked-requires-clause-number
asked-requires-clause-number g c = c.requires.number

pub asked-requires-clause-level : goal.asked-requires-clause-level
asked-requires-clause-level g c = c.requires.level

pub asked-requires-clause-first : goal.asked-requires-clause-first
asked-requires-clause-first g c = c.requires.first

pub asked-requires-clause-known : goal.asked-requires-clause-known
asked-requires-clause-known g c = c.requires.known

pub asked-requires-clause-proofs : goal.asked-requires-clause-proofs
asked-requires-clause-proofs g c = c.requires.proofs

pub asked-requires-clause-ready : goal.asked-requires-clause-ready
asked-requires-clause-ready g c = c.requires.ready
