-- The counts of live lemmas, and the marks of first obligations.
use Rattle.std.proofs.Common.{◌≡◌, ◌≢◌, ℕ, suc, ◌+◌, ◌-◌, ◌<◌, ◌≤◌, ◌==◌, ◌&&◌, Bool, true, false, List, [], ◌∷◌, ◌++◌, length, get_or, set, sym, ap, ◌∙◌, refl, subst, inl, inr, arith, length-append, length-set, get_or-set_same, get_or-set_other}
use Rattle.std.specs.Prelude.{Option, Some, None}
use Rattle.std.specs.List.{count_by}
use Rattle.std.proofs.Math.Bool.{cond}
use Rattle.std.proofs.Math.ListN.{get_or-append}
use Rattle.std.proofs.Math.Seq.{get_or-append_seam}
use Rattle.std.proofs.lemmas.Bool.{cases_lt, cases_eq}
use Rattle.std.proofs.lemmas.Bool.Decides.{nat_tests}
use Rattle.std.proofs.lemmas.List.Sums.{sum_by-append, sum_by-set, sum_by-cons, count_by-le-length, get_or-le-sum_by}
use Rattle.frame_core.specs.declared.parts.Lemma.{Lemma}
use Rattle.frame_core.specs.declared.parts.Obligation.{Obligation}
use Rattle.frame_core.specs.FrameLaw.{no_lemma, lemma_at, raised_at, retired_at, no_obligation, obligation_at}
use Rattle.frame_core.specs.Changes.{HasLiveAt, HasNoneAt}
use Rattle.frame_core.specs.Counting.{is_live_at, AreCounts, more_at, less_at, first_of, marked_at, IsMark, AreMarks}

-- what a lemma counts at level i
abbrev pub counts_as : ℕ → Lemma → ℕ
counts_as i l = cond (is_live_at i l) 1 0

-- 1 or 0
abbrev pub one_if : Bool → ℕ
one_if b = cond b 1 0

test_same : (a i : ℕ) (b : Bool) → b ≡ true → a ≡ i → one_if (b && (a == i)) ≡ 1
test_same a i true e f = grind (arith, nat_tests)
test_same a i false e f = absurd (cc)

test_other : (a i : ℕ) (b : Bool) → a ≢ i → one_if (b && (a == i)) ≡ 0
test_other a i true ne = grind (arith, nat_tests)
test_other a i false ne = refl

test_off : (a i : ℕ) (b : Bool) → b ≡ false → one_if (b && (a == i)) ≡ 0
test_off a i true e = absurd (cc)
test_off a i false e = refl

-- a lemma that counts is live and has the level
test_back : (a i : ℕ) (b : Bool) → 0 < one_if (b && (a == i)) → (b ≡ true) × (a ≡ i)
test_back a i true h = (refl, grind (arith, nat_tests))
test_back a i false h = absurd (omega arith)

-- counts of a list that has one more at a level
pub counted_more : (ls more : List Lemma) (counts : List ℕ) (level : ℕ) → AreCounts ls counts →
    ((i : ℕ) → i ≡ level → count_by (is_live_at i) more ≡ count_by (is_live_at i) ls + 1) →
    ((i : ℕ) → i ≢ level → count_by (is_live_at i) more ≡ count_by (is_live_at i) ls) → AreCounts more (more_at counts level)
counted_more ls more counts level are one other i lt =
    let below : i < length counts = omega (arith, length-set counts level (get_or counts level 0 + 1)) in
    elim (cases_eq i level) [
      | inl e ↦
          let a : get_or (set counts level (get_or counts level 0 + 1)) i 0 ≡ get_or counts level 0 + 1 =
          rw e (get_or-set_same counts level (get_or counts level 0 + 1) 0 (omega arith)) in
          let b : get_or counts i 0 ≡ get_or counts level 0 = ap (λ (k : ℕ). get_or counts k 0) e in
          let c = one i e in
          let d = are i below in
          omega arith
      | inr ne ↦ get_or-set_other counts level i (get_or counts level 0 + 1) 0 ne ∙ are i below ∙ sym (other i ne)
    ]

pub counted_less : (ls more : List Lemma) (counts : List ℕ) (level : ℕ) → AreCounts ls counts →
    ((i : ℕ) → i ≡ level → count_by (is_live_at i) more ≡ count_by (is_live_at i) ls - 1) →
    ((i : ℕ) → i ≢ level → count_by (is_live_at i) more ≡ count_by (is_live_at i) ls) → AreCounts more (less_at true counts level)
counted_less ls more counts level are one other i lt =
    let below : i < length counts = omega (arith, length-set counts level (get_or counts level 0 - 1)) in
    elim (cases_eq i level) [
      | inl e ↦
          let a : get_or (set counts level (get_or counts level 0 - 1)) i 0 ≡ get_or counts level 0 - 1 =
          rw e (get_or-set_same counts level (get_or counts level 0 - 1) 0 (omega arith)) in
          let b : get_or counts i 0 ≡ get_or counts level 0 = ap (λ (k : ℕ). get_or counts k 0) e in
          let c = one i e in
          let d = are i below in
          omega arith
      | inr ne ↦ get_or-set_other counts level i (get_or counts level 0 - 1) 0 ne ∙ are i below ∙ sym (other i ne)
    ]

one_more : (ls : List Lemma) (l : Lemma) (i : ℕ) → count_by (is_live_at i) (ls ++ l ∷ []) ≡ count_by (is_live_at i) ls + counts_as i l
one_more ls l i =
    let a = sum_by-append (counts_as i) ls (l ∷ []) in
    let b = sum_by-cons (counts_as i) l [] in
    omega arith

pub counted_added : (ls : List Lemma) (l : Lemma) (counts : List ℕ) → l.live ≡ true → AreCounts ls counts →
    AreCounts (ls ++ l ∷ []) (more_at counts l.level)
counted_added ls l counts on are =
    counted_more ls (ls ++ l ∷ []) counts l.level are
    (λ i e. let a = one_more ls l i in let b : counts_as i l ≡ 1 = test_same l.level i l.live on (sym e) in omega arith)
    (λ i ne. let a = one_more ls l i in let b : counts_as i l ≡ 0 = test_other l.level i l.live (λ e. ne (sym e)) in omega arith)

-- a lemma is changed
one_set : (ls : List Lemma) (k : ℕ) (l : Lemma) (i : ℕ) → k < length ls →
    count_by (is_live_at i) (set ls k l) + counts_as i (lemma_at ls k) ≡ count_by (is_live_at i) ls + counts_as i l
one_set ls k l i lt = sum_by-set (counts_as i) ls k l no_lemma lt

pub counted_retired : (ls : List Lemma) (k : ℕ) (live : Bool) (counts : List ℕ) → k < length ls → (lemma_at ls k).live ≡ live → AreCounts ls counts →
    AreCounts (retired_at ls k) (less_at live counts (lemma_at ls k).level)
counted_retired ls k true counts lt on are =
    let l : Lemma = record { clause = (lemma_at ls k).clause; level = (lemma_at ls k).level; live = false } in
    counted_less ls (retired_at ls k) counts (lemma_at ls k).level are
    (λ i e.
    let a = one_set ls k l i lt in
    let b : counts_as i (lemma_at ls k) ≡ 1 = test_same (lemma_at ls k).level i (lemma_at ls k).live on (sym e) in
    let c : counts_as i l ≡ 0 = refl in
    omega arith)
    (λ i ne.
    let a = one_set ls k l i lt in
    let b : counts_as i (lemma_at ls k) ≡ 0 = test_other (lemma_at ls k).level i (lemma_at ls k).live (λ e. ne (sym e)) in
    let c : counts_as i l ≡ 0 = refl in
    omega arith)
counted_retired ls k false counts lt off are = λ i below.
    let l : Lemma = record { clause = (lemma_at ls k).clause; level = (lemma_at ls k).level; live = false } in
    let a = one_set ls k l i lt in
    let b : counts_as i (lemma_at ls k) ≡ 0 = test_off (lemma_at ls k).level i (lemma_at ls k).live off in
    let c : counts_as i l ≡ 0 = refl in
    let d = are i below in
    omega arith

-- a raised lemma counts no longer where it was, as a retired one, and counts where it is, as one that is added
pub counted_raised : (ls : List Lemma) (k level : ℕ) (counts : List ℕ) → k < length ls → (lemma_at ls k).live ≡ true → AreCounts ls counts →
    AreCounts (raised_at ls k level) (more_at (less_at true counts (lemma_at ls k).level) level)
counted_raised ls k level counts lt on are =
    let l : Lemma = record { clause = (lemma_at ls k).clause; level = level; live = (lemma_at ls k).live } in
    let off : Lemma = record { clause = (lemma_at ls k).clause; level = (lemma_at ls k).level; live = false } in
    counted_more (retired_at ls k) (raised_at ls k level) (less_at true counts (lemma_at ls k).level) level
    (counted_retired ls k true counts lt on are)
    (λ i e.
    let a = one_set ls k l i lt in
    let r = one_set ls k off i lt in
    let z : counts_as i off ≡ 0 = refl in
    let c : counts_as i l ≡ 1 = test_same level i (lemma_at ls k).live on (sym e) in
    omega arith)
    (λ i ne.
    let a = one_set ls k l i lt in
    let r = one_set ls k off i lt in
    let z : counts_as i off ≡ 0 = refl in
    let c : counts_as i l ≡ 0 = test_other level i (lemma_at ls k).live (λ e. ne (sym e)) in
    omega arith)

-- no count is above the number of lemmas
pub counts_fit : (ls : List Lemma) (counts : List ℕ) → AreCounts ls counts → (i : ℕ) → i < length counts → get_or counts i 0 ≤ length ls
counts_fit ls counts are i lt = let a = are i lt in let b = count_by-le-length (is_live_at i) ls in omega arith

-- a count of 0
pub counted_none : (ls : List Lemma) (i : ℕ) → count_by (is_live_at i) ls ≡ 0 → HasNoneAt ls i
counted_none ls i e n lt on at =
    let a = get_or-le-sum_by (counts_as i) ls n no_lemma lt in
    let b : counts_as i (lemma_at ls n) ≡ 1 = test_same (lemma_at ls n).level i (lemma_at ls n).live on at in
    absurd (omega arith)

pub counted_some : (ls : List Lemma) (i : ℕ) → 0 < count_by (is_live_at i) ls → HasLiveAt ls i
counted_some [] i h = absurd (omega arith)
counted_some (l ∷ ls) i h =
    let e = sum_by-cons (counts_as i) l ls in
    elim (cases_lt 0 (counts_as i l)) [
      | inl here ↦ let t = test_back l.level i l.live here in (0, omega arith, t.0, t.1)
      | inr none ↦
          let rest = counted_some ls i (omega arith) in
          (suc rest.0, omega (arith, rest.1), rest.2, rest.3)
    ]

-- the marks with one obligation more
mark_by : (os : List Obligation) (o : Obligation) (j : ℕ) (m : Option ℕ) (first : Bool) → o.system ≡ j → o.first ≡ first → IsMark os j m →
    IsMark (os ++ o ∷ []) j (first_of m first (length os))
mark_by os o j (Some n) first is f h =
    let same : obligation_at (os ++ o ∷ []) n ≡ obligation_at os n = get_or-append os (o ∷ []) no_obligation n h.0 in
    (omega (arith, h.0, length-append os (o ∷ [])), ap (λ (q : Obligation). q.system) same ∙ h.1, ap (λ (q : Obligation). q.first) same ∙ h.2)
mark_by os o j None true is f h =
    let last : obligation_at (os ++ o ∷ []) (length os) ≡ o = get_or-append_seam os o [] no_obligation in
    (omega (arith, length-append os (o ∷ [])), ap (λ (q : Obligation). q.system) last ∙ is, ap (λ (q : Obligation). q.first) last ∙ f)
mark_by os o j None false is f h = λ n lt of. elim (cases_lt n (length os)) [
  | inl old ↦
      let same : obligation_at (os ++ o ∷ []) n ≡ obligation_at os n = get_or-append os (o ∷ []) no_obligation n old in
      ap (λ (q : Obligation). q.first) same ∙ h n old (sym (ap (λ (q : Obligation). q.system) same) ∙ of)
  | inr at ↦
      let e : n ≡ length os = omega (arith, length-append os (o ∷ [])) in
      let last : obligation_at (os ++ o ∷ []) n ≡ o = rw e (get_or-append_seam os o [] no_obligation) in
      ap (λ (q : Obligation). q.first) last ∙ f
]

mark_here : (os : List Obligation) (o : Obligation) (j : ℕ) (m : Option ℕ) → o.system ≡ j → IsMark os j m →
    IsMark (os ++ o ∷ []) j (first_of m o.first (length os))
mark_here os o j m is h = mark_by os o j m o.first is refl h

mark_other : (os : List Obligation) (o : Obligation) (j : ℕ) (m : Option ℕ) → o.system ≢ j → IsMark os j m → IsMark (os ++ o ∷ []) j m
mark_other os o j (Some n) ne h =
    let same : obligation_at (os ++ o ∷ []) n ≡ obligation_at os n = get_or-append os (o ∷ []) no_obligation n h.0 in
    (omega (arith, h.0, length-append os (o ∷ [])), ap (λ (q : Obligation). q.system) same ∙ h.1, ap (λ (q : Obligation). q.first) same ∙ h.2)
mark_other os o j None ne h = λ n lt of. elim (cases_lt n (length os)) [
  | inl old ↦
      let same : obligation_at (os ++ o ∷ []) n ≡ obligation_at os n = get_or-append os (o ∷ []) no_obligation n old in
      ap (λ (q : Obligation). q.first) same ∙ h n old (sym (ap (λ (q : Obligation). q.system) same) ∙ of)
  | inr at ↦
      let e : n ≡ length os = omega (arith, length-append os (o ∷ [])) in
      let last : obligation_at (os ++ o ∷ []) n ≡ o = rw e (get_or-append_seam os o [] no_obligation) in
      absurd (ne (sym (ap (λ (q : Obligation). q.system) last) ∙ of))
]

pub marked_more : (os : List Obligation) (o : Obligation) (marks : List (Option ℕ)) → AreMarks os marks →
    AreMarks (os ++ o ∷ []) (marked_at marks o.system o.first (length os))
marked_more os o marks are j lt =
    let m = first_of (get_or marks o.system None) o.first (length os) in
    let below : j < length marks = omega (arith, length-set marks o.system m) in
    elim (cases_eq j o.system) [
      | inl e ↦
          let at : get_or (set marks o.system m) j None ≡ m = rw e (get_or-set_same marks o.system m None (omega arith)) in
          let old : IsMark os j (get_or marks o.system None) = subst (λ (k : ℕ). IsMark os j (get_or marks k None)) e (are j below) in
          subst (IsMark (os ++ o ∷ []) j) (sym at) (mark_here os o j (get_or marks o.system None) (sym e) old)
      | inr ne ↦
          subst (IsMark (os ++ o ∷ []) j) (sym (get_or-set_other marks o.system j m None ne))
          (mark_other os o j (get_or marks j None) (λ e. ne (sym e)) (are j below))
    ]

-- no marks, where there is no obligation
pub marked_none : (marks : List (Option ℕ)) → ((j : ℕ) → j < length marks → get_or marks j None ≡ None) → AreMarks [] marks
marked_none marks none j lt = subst (IsMark [] j) (sym (none j lt)) (λ n below. absurd (omega (arith, below)))

-- the count of one level more
pub counted_level : (ls : List Lemma) (counts : List ℕ) (n : ℕ) → AreCounts ls counts → n ≡ count_by (is_live_at (length counts)) ls →
    AreCounts ls (counts ++ n ∷ [])
counted_level ls counts n are e i lt = elim (cases_lt i (length counts)) [
  | inl old ↦ get_or-append counts (n ∷ []) 0 i old ∙ are i old
  | inr at ↦
      let here : i ≡ length counts = omega (arith, length-append counts (n ∷ [])) in
      let last : get_or (counts ++ n ∷ []) i 0 ≡ n = rw here (get_or-append_seam counts n [] 0) in
      last ∙ e ∙ ap (λ (k : ℕ). count_by (is_live_at k) ls) (sym here)
]

-- a count that is one more is no more than the number of lemmas
pub more_fits : (more : List Lemma) (counts : List ℕ) (level : ℕ) → level < length counts → AreCounts more (more_at counts level) →
    get_or counts level 0 + 1 ≤ length more
more_fits more counts level lt are =
    let a = get_or-set_same counts level (get_or counts level 0 + 1) 0 lt in
    let b = counts_fit more (more_at counts level) are level (omega (arith, length-set counts level (get_or counts level 0 + 1))) in
    omega arith
