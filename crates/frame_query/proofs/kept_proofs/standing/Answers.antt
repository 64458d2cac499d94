use Rattle.std.proofs.Common.{◌≡◌, ◌+◌, ◌≤◌, ◌∙◌, ℕ, List, All, ap, subst, rules}
use Rattle.std.proofs.lemmas.List.{get_or_default}
use Rattle.frame_core.specs.declared.parts.Lemma.{Lemma}
use Rattle.frame_core.specs.Facts.{ProvedClause}
use Rattle.frame_core.specs.FrameLaw.{lemma_at, no_lemma}
use Rattle.frame_query.specs.KeptProofs.{proof_at}
use Rattle.frame_query.proofs.Again.{of_push}
use Rattle.frame_query.proofs.kept_proofs.standing.Goals as goal

pub returns : goal.returns
returns c =
    let sys = c.args.system.now in
    let lemmas = c.args.lemmas.now in
    let n = c.args.n in
    let proof = c.args.proof.now in
    let here : Lemma = c.index-lemmas-n.result in
    let e : here ≡ lemma_at lemmas n = c.index-lemmas-n.is ∙ get_or_default lemmas n here no_lemma c.requires.number in
    let F : Lemma → ProvedClause = λ l. proof_at sys lemmas l.clause proof (l.level + 1) in
    let H : Lemma → Type 0 = λ l. All (λ k. l.level ≤ (lemma_at lemmas k).level) proof.numbers.items in
    let N : List ℕ → Type 0 = All (λ k. here.level ≤ (lemma_at lemmas k).level) in
    of_push sys lemmas n proof c.in_ok-proved.proved c.requires.kept.below
    (subst H e (subst N c.deref.ensures.value (c.if-not-all_stand.ensures (search rules)))) (c.in_ok-proved.ensures ∙ ap F e)
