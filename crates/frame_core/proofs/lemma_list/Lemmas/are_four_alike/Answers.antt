use Rattle.std.proofs.Common.{◌≡◌, ◌<◌, ◌∙◌, ◌/◌, ℕ, List, sym, subst, ap}
use Rattle.std.specs.Prelude.{slice_index}
use Rattle.frame_core.specs.declared.parts.Lemma.{Lemma}
use Rattle.frame_core.specs.Copies.{AreLevel}
use Rattle.frame_core.specs.FrameLaw.{lemma_at}
use Rattle.frame_core.proofs.Marked.{four_level}
use Rattle.frame_core.proofs.lemma_list.Lemmas.are_four_alike.Goals as goal

pub returns-clause-same : goal.returns-clause-same
returns-clause-same c = λ yes m from to.
    let n = c.args.n in
    let ls : List Lemma = c.self.inside.items.items in
    let others : List Lemma = c.later.inside.items.items in
    let words : List ℕ = c.self.inside.marks.items in
    let marks : List ℕ = c.later.inside.marks.items in
    let here : c.deref.result.now ≡ words = c.deref.ensures.value in
    let there : c.deref-2.result.now ≡ marks = c.deref-2.ensures.value in
    let at : List ℕ → ℕ = λ z. slice_index z (n / 4) in
    let same : at words ≡ at marks = sym (ap at here) ∙ c.is_same_word.ensures.same yes ∙ ap at there in
    let told = subst (λ (z : List ℕ). 0 < at z) here (c.is_same_word.ensures.told yes) in
    let level : AreLevel (lemma_at ls m) (lemma_at others m) =
    four_level ls others words marks n c.self.invariant.1 c.later.invariant.1 c.if-n-ne0.false same told m from to in
    let A : List Lemma → Type 0 = λ z. AreLevel (lemma_at z m) (lemma_at others m) in
    let B : List Lemma → Type 0 = λ z. AreLevel (lemma_at c.args.self.now m) (lemma_at z m) in
    subst B c.later.view_is (subst A c.self.view_is level)
