use Rattle.std.proofs.Common.{sym, subst}
use Rattle.clause_core.specs.Systems.{TransitionSystem}
use Rattle.frame_query.specs.KeptProofs.{AreKept}
use Rattle.frame_query.proofs.pushing.keep_found.Goals as goal

pub keep_proof-requires-clause-kept : goal.keep_proof-requires-clause-kept
keep_proof-requires-clause-kept c =
    let found = rw c.in-Proved.is at c.requires.found.2 in
    let K : TransitionSystem → Type 0 = λ s. AreKept s c.args.lemmas.now c.args.proofs.now.items in
    subst K (sym found.0) c.requires.kept

pub returns-in_err-keep_proof : goal.returns-in_err-keep_proof
returns-in_err-keep_proof c =
    let found = rw c.in-Proved.is at c.requires.found.2 in
    let K : TransitionSystem → Type 0 = λ s. AreKept s c.args.lemmas.now c.keep_proof.new.proofs.items in
    subst K found.0 c.keep_proof.ensures

pub returns-in_ok-keep_proof : goal.returns-in_ok-keep_proof
returns-in_ok-keep_proof c =
    let found = rw c.in-Proved.is at c.requires.found.2 in
    let K : TransitionSystem → Type 0 = λ s. AreKept s c.args.lemmas.now c.keep_proof.new.proofs.items in
    subst K found.0 c.keep_proof.ensures
