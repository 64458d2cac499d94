-- Words that tell the levels of lemmas, and which are live.
use Rattle.std.proofs.Common.{◌≡◌, ℕ, ◌+◌, ◌-◌, ◌*◌, ◌/◌, ◌%◌, ◌<◌, ◌≤◌, Bool, true, false, List, [], ◌∷◌, ◌++◌, length, set, refl, sym, ap, subst, ◌∙◌, inl, inr, arith, length-append, get_or-set_other}
use Rattle.std.specs.Prelude.{slice_index}
use Rattle.std.proofs.Math.ListN.{get_or-append}
use Rattle.std.proofs.lemmas.Bool.{cases_lt}
use Rattle.std.proofs.lemmas.List.{get_or_past}
use Rattle.frame_core.specs.declared.parts.Lemma.{Lemma}
use Rattle.frame_core.specs.Copies.{AreLevel}
use Rattle.frame_core.specs.FrameLaw.{no_lemma, lemma_at}
use Rattle.frame_core.specs.Marks.{live_bit, mark_of, part_of, AreMarked, AreSameBut}

-- another lemma in place of lemma n
pub others_set : (ls new : List Lemma) (n : ℕ) (l : Lemma) → new ≡ set ls n l → AreSameBut n ls new
others_set ls new n l is m ne = ap (λ (z : List Lemma). lemma_at z m) is ∙ get_or-set_other ls n m l no_lemma ne

-- one lemma more
pub others_more : (ls new : List Lemma) (n : ℕ) (l : Lemma) → n ≡ length ls → new ≡ ls ++ l ∷ [] → AreSameBut n ls new
others_more ls new n l end is m ne =
    ap (λ (z : List Lemma). lemma_at z m) is
    ∙ elim (cases_lt m (length ls)) [
      | inl old ↦ get_or-append ls (l ∷ []) no_lemma m old
      | inr past ↦
          get_or_past (ls ++ l ∷ []) m no_lemma (omega (arith, length-append ls (l ∷ [])))
          ∙ sym (get_or_past ls m no_lemma (omega arith))
    ]

-- equal marks tell equal levels, and whether both lemmas are live
marks_tell : (x y : ℕ) (u v : Bool) → 2 * x + live_bit u ≡ 2 * y + live_bit v → (x ≡ y) × (u ≡ v)
marks_tell x y true true e = (omega arith, refl)
marks_tell x y true false e = absurd (omega arith)
marks_tell x y false true e = absurd (omega arith)
marks_tell x y false false e = (omega arith, refl)

-- four lemmas with the same word are level
pub four_level : (ls others : List Lemma) (words marks : List ℕ) (n : ℕ) → AreMarked ls words → AreMarked others marks → n % 4 ≡ 0 →
    slice_index words (n / 4) ≡ slice_index marks (n / 4) → 0 < slice_index words (n / 4) →
    (m : ℕ) → n ≤ m → m < n + 4 → AreLevel (lemma_at ls m) (lemma_at others m)
four_level ls others words marks n are were first same told m from to =
    let g : ℕ = n / 4 in
    let i : ℕ = m - n in
    let low : i < 4 = omega arith in
    let place : 4 * g + i ≡ m = omega arith in
    let here = are g told i low in
    let there = were g (subst (λ (w : ℕ). 0 < w) same told) i low in
    let equal : mark_of (lemma_at ls (4 * g + i)) ≡ mark_of (lemma_at others (4 * g + i)) =
    sym here ∙ ap (λ (w : ℕ). part_of w i) same ∙ there in
    let Q : ℕ → Type 0 = λ k. AreLevel (lemma_at ls k) (lemma_at others k) in
    let a : Lemma = lemma_at ls (4 * g + i) in
    let b : Lemma = lemma_at others (4 * g + i) in
    subst Q place (marks_tell a.level b.level a.live b.live equal)
