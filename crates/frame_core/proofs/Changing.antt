-- The law of the lemmas is kept.
use Rattle.std.proofs.Common.{◌≡◌, ◌≢◌, ◌⊎◌, ℕ, ◌+◌, ◌-◌, ◌<◌, ◌≤◌, Bool, true, false, List, [], ◌∷◌, ◌++◌, length, get_or, set, sym, ap, ◌∙◌, subst, inl, inr, arith, length-append, length-set, get_or-set_same, get_or-set_other}
use Rattle.std.specs.List.{Contains}
use Rattle.std.proofs.Math.ListN.{get_or-append}
use Rattle.std.proofs.Math.Seq.{get_or-append_seam}
use Rattle.std.proofs.lemmas.Bool.{cases_eq, cases_lt, both_ways}
use Rattle.std.proofs.lemmas.List.Elements.{All-contains}
use Rattle.clause_core.specs.declared.literal.Lit.{Lit}
use Rattle.clause_core.specs.Literals.{Within}
use Rattle.clause_core.specs.Assignments.{ClauseTrue}
use Rattle.clause_core.specs.Systems.{TransitionSystem, FirstBits, StepBits, BadBits}
use Rattle.frame_core.specs.declared.parts.Lemma.{Lemma}
use Rattle.frame_core.specs.declared.parts.Parent.{Parent}
use Rattle.frame_core.specs.Facts.{ProvedClause, IsProved, IsPart, MeetsParents}
use Rattle.frame_core.specs.FrameLaw.{no_lemma, lemma_at, InFrame, Covers, LemmasHold, IsSafe, AllStand}
use Rattle.frame_core.specs.Changes.{IsCut}

-- what a query shows of the whole clause
pub record Shown (sys : TransitionSystem) (clause : List Lit) (level : ℕ) (parents : List Parent) : Type 0 where
  pub above : 0 < level
  pub within : Within sys.state_bits clause
  pub first : (x : ℕ → Bool) → FirstBits sys x → ClauseTrue x clause
  pub step : (x y : ℕ → Bool) → (level ≡ 1 → FirstBits sys x) → (1 < level → ClauseTrue x clause × MeetsParents parents x) →
      StepBits sys x y → ClauseTrue y clause

pub ClauseTrue-part : (x : ℕ → Bool) (c d : List Lit) → IsPart c d → ClauseTrue x c → ClauseTrue x d
ClauseTrue-part x c d part t =
    let l : Lit = t.1 in
    let has : Contains d l = All-contains (Contains d) c l part (t.0, t.2, t.3) in
    (has.0, l, has.1, has.2, t.4)

pub shown : (p : ProvedClause) → IsProved p → Shown p.system p.clause p.level p.parents
shown p h =
    record {
      above = h.above;
      within = h.within;
      first = h.first;
      step = λ x y at_first later s. ClauseTrue-part y p.part p.clause h.part_in (h.step x y at_first later s);
    }

-- the lemmas of the shorter list are in the longer one, with no less a level
pub record Extends (ls more : List Lemma) : Type 0 where
  pub longer : length ls ≤ length more
  pub clause : (n : ℕ) → n < length ls → (lemma_at more n).clause ≡ (lemma_at ls n).clause
  pub level : (n : ℕ) → n < length ls → (lemma_at ls n).level ≤ (lemma_at more n).level
  pub live : (n : ℕ) → n < length ls → (lemma_at more n).live ≡ (lemma_at ls n).live

-- a lemma that was there with this level
pub record WasThere (ls more : List Lemma) (n : ℕ) : Type 0 where
  pub old : n < length ls
  pub level : (lemma_at more n).level ≡ (lemma_at ls n).level

-- a lemma that was proved at this level
pub record IsFresh (more : List Lemma) (clause : List Lit) (i n : ℕ) : Type 0 where
  pub clause_is : (lemma_at more n).clause ≡ clause
  pub level_is : (lemma_at more n).level ≡ i
  pub live_is : (lemma_at more n).live ≡ true

pub fewer : (sys : TransitionSystem) (ls more : List Lemma) → Extends ls more → (i : ℕ) (x : ℕ → Bool) → InFrame sys more i x → InFrame sys ls i x
fewer sys ls more e i x h = (
  h.0,
  λ some n lt le.
      let up = e.level n lt in
      let long = e.longer in
      subst (ClauseTrue x) (e.clause n lt) (h.1 some n (omega arith) (omega arith)),
)

pub safe_more : (sys : TransitionSystem) (ls more : List Lemma) (top : ℕ) → Extends ls more → IsSafe sys ls top → IsSafe sys more top
safe_more sys ls more top e safe j below x inside = safe j below x (fewer sys ls more e j x inside)

pub shown_step : (sys : TransitionSystem) (ls more : List Lemma) (clause : List Lit) (i : ℕ) (parents : List Parent) → Extends ls more →
    Shown sys clause i parents → AllStand ls (i - 1) parents →
    (n : ℕ) → n < length more → IsFresh more clause i n → (x y : ℕ → Bool) → InFrame sys more (i - 1) x → StepBits sys x y → ClauseTrue y clause
shown_step sys ls more clause i parents e proved stand n lt fresh x y inside step =
    proved.step x y
    (λ one. inside.0 (omega arith))
    (λ many.
    let some : 0 < i - 1 = omega arith in
    let level = fresh.level_is in
    let own : ClauseTrue x (lemma_at more n).clause = inside.1 some n lt (omega arith) in (
      subst (ClauseTrue x) fresh.clause_is own,
      λ k d below.
          let s = stand some k d below in
          let p : Parent = get_or parents k d in
          let up = e.level p.number s.0 in
          let long = e.longer in
          subst (ClauseTrue x) (e.clause p.number s.0 ∙ s.1) (inside.1 some p.number (omega (arith, s.0)) (omega (arith, s.2))),
    ))
    step

pub changed : (sys : TransitionSystem) (ls more : List Lemma) (clause : List Lit) (i : ℕ) (parents : List Parent) →
    LemmasHold sys ls → Extends ls more → Shown sys clause i parents →
    AllStand ls (i - 1) parents → ((n : ℕ) → n < length more → WasThere ls more n ⊎ IsFresh more clause i n) → LemmasHold sys more
changed sys ls more clause i parents h e proved stand cases =
    record {
      above = λ n lt. elim (cases n lt) [
        | inl w ↦ let a = h.above n w.old in let b = w.level in omega arith
        | inr f ↦ let a = proved.above in let b = f.level_is in omega arith
      ];
      within = λ n lt. elim (cases n lt) [
        | inl w ↦ subst (Within sys.state_bits) (sym (e.clause n w.old)) (h.within n w.old)
        | inr f ↦ subst (Within sys.state_bits) (sym f.clause_is) proved.within
      ];
      first = λ n lt x first. elim (cases n lt) [
        | inl w ↦ subst (ClauseTrue x) (sym (e.clause n w.old)) (h.first n w.old x first)
        | inr f ↦ subst (ClauseTrue x) (sym f.clause_is) (proved.first x first)
      ];
      step = λ n lt x y inside step. elim (cases n lt) [
        | inl w ↦
            let P : ℕ → Type 0 = λ v. InFrame sys more (v - 1) x in
            subst (ClauseTrue y) (sym (e.clause n w.old))
            (h.step n w.old x y (fewer sys ls more e ((lemma_at ls n).level - 1) x (subst P w.level inside)) step)
        | inr f ↦
            let P : ℕ → Type 0 = λ v. InFrame sys more (v - 1) x in
            subst (ClauseTrue y) (sym f.clause_is)
            (shown_step sys ls more clause i parents e proved stand n lt f x y (subst P f.level_is inside) step)
      ];
      covered = λ n lt off. elim (cases n lt) [
        | inl w ↦
            let c = h.covered n w.old (sym (e.live n w.old) ∙ off) in
            let up = e.level c.0 c.1 in
            let long = e.longer in
            let level = w.level in
            let P : List Lit → List Lit → Type 0 = IsPart in
            let part : IsPart (lemma_at more c.0).clause (lemma_at more n).clause =
            subst (λ (a : List Lit). IsPart a (lemma_at more n).clause) (sym (e.clause c.0 c.1))
            (subst (IsPart (lemma_at ls c.0).clause) (sym (e.clause n w.old)) c.2.1) in
            (c.0, omega (arith, c.1), (e.live c.0 c.1 ∙ c.2.0, part, omega (arith, c.2.2)))
        | inr f ↦ absurd (both_ways _ off f.live_is)
      ];
    }

-- one lemma more
pub Extends-added : (ls : List Lemma) (l : Lemma) → Extends ls (ls ++ l ∷ [])
Extends-added ls l =
    record {
      longer = omega (arith, length-append ls (l ∷ []));
      clause = λ n lt. ap (λ (m : Lemma). m.clause) (get_or-append ls (l ∷ []) no_lemma n lt);
      level = λ n lt. let e = ap (λ (m : Lemma). m.level) (get_or-append ls (l ∷ []) no_lemma n lt) in omega arith;
      live = λ n lt. ap (λ (m : Lemma). m.live) (get_or-append ls (l ∷ []) no_lemma n lt);
    }

pub added : (sys : TransitionSystem) (ls : List Lemma) (clause : List Lit) (i : ℕ) (parents : List Parent) →
    LemmasHold sys ls → Shown sys clause i parents → AllStand ls (i - 1) parents →
    LemmasHold sys (ls ++ record { clause = clause; level = i; live = true } ∷ [])
added sys ls clause i parents h proved stand =
    let l : Lemma = record { clause = clause; level = i; live = true } in
    let more = ls ++ l ∷ [] in
    changed sys ls more clause i parents h (Extends-added ls l) proved stand (λ n lt.
    elim (cases_lt n (length ls)) [
      | inl old ↦ inl (record { old = old; level = ap (λ (m : Lemma). m.level) (get_or-append ls (l ∷ []) no_lemma n old) })
      | inr new ↦
          let e : n ≡ length ls = omega (arith, length-append ls (l ∷ [])) in
          let last : lemma_at more n ≡ l = rw e (get_or-append_seam ls l [] no_lemma) in
          inr (record {
            clause_is = ap (λ (m : Lemma). m.clause) last;
            level_is = ap (λ (m : Lemma). m.level) last;
            live_is = ap (λ (m : Lemma). m.live) last;
          })
    ])

-- lemma k at a greater level
abbrev pub at_level : Lemma → ℕ → Lemma
at_level l i = record { clause = l.clause; level = i; live = l.live }

pub Extends-raised : (ls : List Lemma) (k i : ℕ) → k < length ls → (lemma_at ls k).level ≤ i → Extends ls (set ls k (at_level (lemma_at ls k) i))
Extends-raised ls k i lt low =
    let l : Lemma = at_level (lemma_at ls k) i in
    let more = set ls k l in
    let here : lemma_at more k ≡ l = get_or-set_same ls k l no_lemma lt in
    record {
      longer = omega (arith, length-set ls k l);
      clause = λ n below. elim (cases_eq n k) [
        | inl e ↦ rw e (ap (λ (m : Lemma). m.clause) here)
        | inr ne ↦ ap (λ (m : Lemma). m.clause) (get_or-set_other ls k n l no_lemma ne)
      ];
      level = λ n below. elim (cases_eq n k) [
        | inl e ↦ let a = ap (λ (m : Lemma). m.level) here in rw e (omega arith)
        | inr ne ↦ let a = ap (λ (m : Lemma). m.level) (get_or-set_other ls k n l no_lemma ne) in omega arith
      ];
      live = λ n below. elim (cases_eq n k) [
        | inl e ↦ rw e (ap (λ (m : Lemma). m.live) here)
        | inr ne ↦ ap (λ (m : Lemma). m.live) (get_or-set_other ls k n l no_lemma ne)
      ];
    }

pub raised : (sys : TransitionSystem) (ls : List Lemma) (k i : ℕ) (parents : List Parent) → LemmasHold sys ls → k < length ls →
    (lemma_at ls k).level ≤ i → (lemma_at ls k).live ≡ true → Shown sys (lemma_at ls k).clause i parents → AllStand ls (i - 1) parents →
    LemmasHold sys (set ls k (at_level (lemma_at ls k) i))
raised sys ls k i parents h lt low on proved stand =
    let l : Lemma = at_level (lemma_at ls k) i in
    let more = set ls k l in
    let here : lemma_at more k ≡ l = get_or-set_same ls k l no_lemma lt in
    changed sys ls more (lemma_at ls k).clause i parents h (Extends-raised ls k i lt low) proved stand (λ n below.
    elim (cases_eq n k) [
      | inl e ↦
          let at : lemma_at more n ≡ l = rw e here in
          inr (record {
            clause_is = ap (λ (m : Lemma). m.clause) at;
            level_is = ap (λ (m : Lemma). m.level) at;
            live_is = ap (λ (m : Lemma). m.live) at ∙ on;
          })
      | inr ne ↦
          inl (record {
            old = omega (arith, length-set ls k l);
            level = ap (λ (m : Lemma). m.level) (get_or-set_other ls k n l no_lemma ne);
          })
    ])

-- the top goes up where no state of its frame is bad
pub opened : (sys : TransitionSystem) (ls : List Lemma) (top : ℕ) → IsSafe sys ls top →
    ((x : ℕ → Bool) → InFrame sys ls top x → BadBits sys x → ⊥) → IsSafe sys ls (top + 1)
opened sys ls top safe clear i below x inside bad =
    elim (cases_eq i top) [
      | inl e ↦ let P : ℕ → Type 0 = λ j. InFrame sys ls j x in clear x (subst P e inside) bad
      | inr ne ↦ safe i (omega arith) x inside bad
    ]

pub IsPart-trans : (a b c : List Lit) → IsPart a b → IsPart b c → IsPart a c
IsPart-trans a b c p q k d lt = All-contains (Contains c) b (get_or a k d) q (p k d lt)

-- lemma k no longer live
abbrev pub retired_lemma : Lemma → Lemma
retired_lemma l = record { clause = l.clause; level = l.level; live = false }

abbrev pub without : List Lemma → ℕ → List Lemma
without ls k = set ls k (retired_lemma (lemma_at ls k))

same_clause : (ls : List Lemma) (k n : ℕ) → k < length ls → (lemma_at (without ls k) n).clause ≡ (lemma_at ls n).clause
same_clause ls k n lt = elim (cases_eq n k) [
  | inl e ↦ rw e (ap (λ (z : Lemma). z.clause) (get_or-set_same ls k (retired_lemma (lemma_at ls k)) no_lemma lt))
  | inr ne ↦ ap (λ (z : Lemma). z.clause) (get_or-set_other ls k n (retired_lemma (lemma_at ls k)) no_lemma ne)
]

same_level : (ls : List Lemma) (k n : ℕ) → k < length ls → (lemma_at (without ls k) n).level ≡ (lemma_at ls n).level
same_level ls k n lt = elim (cases_eq n k) [
  | inl e ↦ rw e (ap (λ (z : Lemma). z.level) (get_or-set_same ls k (retired_lemma (lemma_at ls k)) no_lemma lt))
  | inr ne ↦ ap (λ (z : Lemma). z.level) (get_or-set_other ls k n (retired_lemma (lemma_at ls k)) no_lemma ne)
]

less : (ls : List Lemma) (k n : ℕ) → n < length (without ls k) → n < length ls
less ls k n b = omega (arith, length-set ls k (retired_lemma (lemma_at ls k)))

more_than : (ls : List Lemma) (k n : ℕ) → n < length ls → n < length (without ls k)
more_than ls k n b = omega (arith, length-set ls k (retired_lemma (lemma_at ls k)))

back : (sys : TransitionSystem) (ls : List Lemma) (k : ℕ) → k < length ls → (i : ℕ) (x : ℕ → Bool) → InFrame sys (without ls k) i x → InFrame sys ls i x
back sys ls k lt i x inside =
    (inside.0, λ some n b le. let e = same_level ls k n lt in subst (ClauseTrue x) (same_clause ls k n lt) (inside.1 some n (more_than ls k n b) (omega arith)))

kept : (ls : List Lemma) (k a n : ℕ) → k < length ls → Covers (lemma_at ls a) (lemma_at ls n) → a ≢ k →
    Covers (lemma_at (without ls k) a) (lemma_at (without ls k) n)
kept ls k a n lt c other =
    let up = same_level ls k a lt in
    let at = same_level ls k n lt in (
      ap (λ (z : Lemma). z.live) (get_or-set_other ls k a (retired_lemma (lemma_at ls k)) no_lemma other) ∙ c.0,
      subst (λ (z : List Lit). IsPart z (lemma_at (without ls k) n).clause) (sym (same_clause ls k a lt))
          (subst (IsPart (lemma_at ls a).clause) (sym (same_clause ls k n lt)) c.1),
      omega (arith, c.2),
    )

pub safe_without : (sys : TransitionSystem) (ls : List Lemma) (k top : ℕ) → k < length ls → IsSafe sys ls top → IsSafe sys (without ls k) top
safe_without sys ls k top lt safe i below x inside = safe i below x (back sys ls k lt i x inside)

pub retired : (sys : TransitionSystem) (ls : List Lemma) (k m : ℕ) → LemmasHold sys ls → k < length ls → m < length ls → m ≢ k →
    Covers (lemma_at ls m) (lemma_at ls k) → LemmasHold sys (without ls k)
retired sys ls k m h lt lm ne cover =
    let l : Lemma = retired_lemma (lemma_at ls k) in
    let more = without ls k in
    record {
      above = λ n b. let z = h.above n (less ls k n b) in let e = same_level ls k n lt in omega arith;
      within = λ n b. subst (Within sys.state_bits) (sym (same_clause ls k n lt)) (h.within n (less ls k n b));
      first = λ n b x f. subst (ClauseTrue x) (sym (same_clause ls k n lt)) (h.first n (less ls k n b) x f);
      step = λ n b x y inside step.
          let P : ℕ → Type 0 = λ v. InFrame sys more (v - 1) x in
          subst (ClauseTrue y) (sym (same_clause ls k n lt))
          (h.step n (less ls k n b) x y (back sys ls k lt ((lemma_at ls n).level - 1) x (subst P (same_level ls k n lt) inside)) step);
      covered = λ n b off. elim (cases_eq n k) [
        | inl e ↦ (m, more_than ls k m lm, kept ls k m n lt (rw e cover) ne)
        | inr other ↦
            let c = h.covered n (less ls k n b) (sym (ap (λ (z : Lemma). z.live) (get_or-set_other ls k n l no_lemma other)) ∙ off) in
            elim (cases_eq c.0 k) [
              | inl e ↦
                  let via : Covers (lemma_at ls k) (lemma_at ls n) = rw e at c.2 in
                  let both : Covers (lemma_at ls m) (lemma_at ls n) =
                  (cover.0, IsPart-trans (lemma_at ls m).clause (lemma_at ls k).clause (lemma_at ls n).clause cover.1 via.1, omega (arith, cover.2, via.2)) in
                  (m, more_than ls k m lm, kept ls k m n lt both ne)
              | inr other' ↦ (c.0, more_than ls k c.0 c.1, kept ls k c.0 n lt c.2 other')
            ]
      ];
    }

-- the lemmas hold in a system whose initial states and steps, cut to the bits of the old one, are among those of the
-- old one
pub carried : (old new : TransitionSystem) (ls : List Lemma) → IsCut old new → LemmasHold old ls → LemmasHold new ls
carried old new ls cut h =
    record {
      above = h.above;
      within = λ n lt k d below. let w = h.within n lt k d below in let b = cut.bits in omega arith;
      first = λ n lt x f. h.first n lt x (cut.first x f);
      step = λ n lt x y inside step. h.step n lt x y ((λ none. cut.first x (inside.0 none)), inside.1) (cut.step x y step);
      covered = h.covered;
    }
