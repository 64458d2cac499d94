-- Lemmas that hold a clause.
use Rattle.std.proofs.Common.{◌≡◌, ℕ, ◌+◌, ◌<◌, ◌≤◌, Bool, true, List, [], ◌∷◌, ◌++◌, length, get_or, subst, sym, ap, ◌∙◌, inl, inr, arith, length-append, ◌↔◌, Option, Some, None}
use Rattle.std.specs.List.{All, Contains}
use Rattle.std.specs.List.Sorted.{IsStrictlyIncreasing}
use Rattle.std.proofs.Math.ListN.{get_or-append}
use Rattle.std.proofs.Math.Seq.{get_or-append_seam}
use Rattle.std.proofs.lemmas.Bool.{cases_eq}
use Rattle.std.proofs.lemmas.List.Elements.{All-append, All-cons, All-nil}
use Rattle.clause_core.specs.declared.literal.Lit.{Lit}
use Rattle.frame_core.specs.declared.parts.Lemma.{Lemma}
use Rattle.frame_core.specs.Facts.{IsPart}
use Rattle.frame_core.specs.FrameLaw.{lemma_at}
use Rattle.frame_core.specs.Looking.{IsHeldBy, IsHeldByNone, IsSetOf, CoversAt, AreCoveredBy}
use Rattle.std.specs.Prelude.{MatchOption}

-- the literals of one clause are marked just where they are a part of those that were marked
pub part_of_marked : (clause part : List Lit) (test : Lit → Bool) → IsSetOf clause test → All (λ l. test l ≡ true) part ↔ IsPart part clause
part_of_marked clause part test is = (
  λ h k d lt. (is (get_or part k d)).0 (h k d lt),
  λ h k d lt. (is (get_or part k d)).1 (h k d lt),
)

-- a lemma that is read holds the clause just where it has a part of it and the level
pub held_by : (lemmas : List Lemma) (clause : List Lit) (level n : ℕ) (l : Lemma) (test : Lit → Bool) → IsSetOf clause test → n < length lemmas →
    l ≡ lemma_at lemmas n → (All (λ m. test m ≡ true) l.clause × (level ≤ l.level)) ↔ IsHeldBy lemmas clause level n
held_by lemmas clause level n l test is lt e =
    let P : Lemma → Type 0 = λ m. (All (λ k. test k ≡ true) l.clause × (level ≤ l.level)) ↔ ((n < length lemmas) × IsPart m.clause clause × (level ≤ m.level)) in
    subst P e (
      λ h. (lt, (part_of_marked clause l.clause test is).0 h.0, h.1),
      λ h. ((part_of_marked clause l.clause test is).1 h.1, h.2),
    )

-- what is said of the lemma that holds a clause, if there is one
abbrev pub Holder : List Lemma → List Lit → ℕ → Option ℕ → Type 0
Holder lemmas clause level found = MatchOption found (IsHeldByNone lemmas clause level) (IsHeldBy lemmas clause level)

-- the same of other lists that are equal
pub holder_same : (ls ms : List Lemma) (c d : List Lit) (i j : ℕ) (found : Option ℕ) → ls ≡ ms → c ≡ d → i ≡ j → Holder ls c i found → Holder ms d j found
holder_same ls ms c d i j found e f g h =
    let P : List Lemma → Type 0 = λ z. Holder z c i found in
    let Q : List Lit → Type 0 = λ z. Holder ms z i found in
    let R : ℕ → Type 0 = λ z. Holder ms d z found in
    subst R g (subst Q f (subst P e h))

pub holder_is : (lemmas : List Lemma) (clause : List Lit) (level n : ℕ) (found : Option ℕ) → found ≡ Some n → Holder lemmas clause level found →
    IsHeldBy lemmas clause level n
holder_is lemmas clause level n found is h = let P : Option ℕ → Type 0 = Holder lemmas clause level in subst P is h

pub holder_none : (lemmas : List Lemma) (clause : List Lit) (level : ℕ) (found : Option ℕ) → found ≡ None → Holder lemmas clause level found →
    IsHeldByNone lemmas clause level
holder_none lemmas clause level found is h = let P : Option ℕ → Type 0 = Holder lemmas clause level in subst P is h

-- a lemma that is read is covered
pub covers_is : (lemmas : List Lemma) (clause : List Lit) (level n : ℕ) (l : Lemma) (b : Bool) → l ≡ lemma_at lemmas n → n < length lemmas → l.live ≡ true →
    l.level ≤ level → (b ≡ true) ↔ IsPart clause l.clause → (b ≡ true) ↔ CoversAt lemmas clause level n
covers_is lemmas clause level n l b e lt live high is =
    let P : Lemma → Type 0 = λ m. (m.live ≡ true) × (m.level ≤ level) × IsPart clause m.clause in (
      λ t. let s = subst P e (live, high, is.0 t) in (lt, s.0, s.1, s.2),
      λ h. is.1 (subst (λ (m : Lemma). IsPart clause m.clause) (sym e) h.3),
    )

below_more : (numbers : List ℕ) (n : ℕ) → All (λ k. k < n) numbers → All (λ k. k < n + 1) numbers
below_more numbers n h k d lt = let small : get_or numbers k d < n = h k d lt in omega arith

-- a greater number is added last
ascending_more : (numbers : List ℕ) (n : ℕ) → All (λ k. k < n) numbers → IsStrictlyIncreasing numbers → IsStrictlyIncreasing (numbers ++ n ∷ [])
ascending_more numbers n below up k lt =
    let count : length (numbers ++ n ∷ []) ≡ length numbers + 1 = length-append numbers (n ∷ []) in
    let first : get_or (numbers ++ n ∷ []) k 0 ≡ get_or numbers k 0 = get_or-append numbers (n ∷ []) 0 k (omega arith) in
    elim (cases_eq (k + 1) (length numbers)) [
      | inl e ↦
          let small : get_or numbers k 0 < n = below k 0 (omega arith) in
          let last : get_or (numbers ++ n ∷ []) (k + 1) 0 ≡ n = ap (λ j. get_or (numbers ++ n ∷ []) j 0) e ∙ get_or-append_seam numbers n [] 0 in
          omega arith
      | inr ne ↦
          let next : get_or (numbers ++ n ∷ []) (k + 1) 0 ≡ get_or numbers (k + 1) 0 = get_or-append numbers (n ∷ []) 0 (k + 1) (omega arith) in
          let rise : get_or numbers k 0 < get_or numbers (k + 1) 0 = up k (omega arith) in
          omega arith
    ]

-- one lemma more was looked at: it is covered, and its number is taken
pub covered_more : (lemmas : List Lemma) (clause : List Lit) (level n : ℕ) (numbers : List ℕ) → CoversAt lemmas clause level n →
    AreCoveredBy lemmas clause level n numbers → AreCoveredBy lemmas clause level (n + 1) (numbers ++ n ∷ [])
covered_more lemmas clause level n numbers here are =
    record {
      each = All-append (CoversAt lemmas clause level) numbers (n ∷ []) are.each (All-cons (CoversAt lemmas clause level) n [] here (All-nil (CoversAt lemmas clause level)));
      whole = λ k lt c. elim (cases_eq k n) [
        | inl e ↦ subst (Contains (numbers ++ n ∷ [])) (sym e)
            (length numbers, omega (arith, length-append numbers (n ∷ [])), get_or-append_seam numbers n [] n)
        | inr ne ↦
            let old : Contains numbers k = are.whole k (omega arith) c in
            (old.0, omega (arith, old.1, length-append numbers (n ∷ [])), get_or-append numbers (n ∷ []) k old.0 old.1 ∙ old.2)
      ];
      below = All-append (λ k. k < n + 1) numbers (n ∷ []) (below_more numbers n are.below) (All-cons (λ k. k < n + 1) n [] (omega arith) (All-nil (λ k. k < n + 1)));
      ascending = ascending_more numbers n are.below are.ascending;
    }

-- it is not
pub covered_same : (lemmas : List Lemma) (clause : List Lit) (level n : ℕ) (numbers : List ℕ) → (CoversAt lemmas clause level n → ⊥) →
    AreCoveredBy lemmas clause level n numbers → AreCoveredBy lemmas clause level (n + 1) numbers
covered_same lemmas clause level n numbers none are =
    record {
      each = are.each;
      whole = λ k lt c. elim (cases_eq k n) [
        | inl e ↦ absurd (none (subst (CoversAt lemmas clause level) e c))
        | inr ne ↦ are.whole k (omega arith) c
      ];
      below = below_more numbers n are.below;
      ascending = are.ascending;
    }
