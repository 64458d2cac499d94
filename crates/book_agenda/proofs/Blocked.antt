-- How far states are blocked, as lemmas come.
use Rattle.std.proofs.Common.{◌≡◌, inl, inr, ℕ, ◌+◌, ◌<◌, ◌≤◌, Bool, false, List, [], ◌∷◌, ◌++◌, length, refl, sym, ap, subst, ◌∙◌, arith, length-append, length-set, get_or-set_same, get_or-set_other}
use Rattle.std.proofs.Math.ListN.{get_or-append}
use Rattle.std.proofs.lemmas.List.{get_or_push}
use Rattle.std.proofs.lemmas.Bool.{cases_eq}
use Rattle.clause_core.specs.declared.literal.Lit.{Lit}
use Rattle.clause_core.specs.Assignments.{ClauseTrue, assignment_of}
use Rattle.frame_core.specs.declared.parts.Lemma.{Lemma}
use Rattle.frame_core.specs.declared.parts.Obligation.{Obligation}
use Rattle.std.specs.Prelude.{Option}
use Rattle.std.proofs.Math.Nat.{lt_of_not-le}
use Rattle.frame_core.specs.declared.outcomes.Noting.{Noting}
use Rattle.frame_core.specs.declared.outcomes.Noting.TheVariants.{Noted, OtherSystem}
use Rattle.frame_core.specs.Facts.{FoundState}
use Rattle.frame_core.specs.Changes.{NotesSame, with_obligation}
use Rattle.frame_core.specs.FrameLaw.{FrameState, IsAsHigh, no_lemma, no_obligation, lemma_at, obligation_at, raised_at, retired_at}
use Rattle.book_agenda.specs.Values.{IsBlockedTo, blocked_at, AreBlocked, IsLifted}

pub lemma_old : (ls : List Lemma) (l : Lemma) (n : ℕ) → n < length ls → lemma_at (ls ++ l ∷ []) n ≡ lemma_at ls n
lemma_old ls l n lt = get_or-append ls (l ∷ []) no_lemma n lt

pub lemma_last : (ls : List Lemma) (l : Lemma) (n : ℕ) → length ls ≡ n → lemma_at (ls ++ l ∷ []) n ≡ l
lemma_last ls l n e = get_or_push ls l no_lemma n e

pub obligation_old : (os : List Obligation) (o : Obligation) (n : ℕ) → n < length os → obligation_at (os ++ o ∷ []) n ≡ obligation_at os n
obligation_old os o n lt = get_or-append os (o ∷ []) no_obligation n lt

pub obligation_last : (os : List Obligation) (o : Obligation) (n : ℕ) → length os ≡ n → obligation_at (os ++ o ∷ []) n ≡ o
obligation_last os o n e = get_or_push os o no_obligation n e

-- one lemma more
blocked_more : (ls : List Lemma) (l : Lemma) (x : ℕ → Bool) (b c : ℕ) → IsBlockedTo ls b x → IsLifted l x b c → IsBlockedTo (ls ++ l ∷ []) c x
blocked_more ls l x b c h lifted =
    let len : length (ls ++ l ∷ []) ≡ length ls + 1 = length-append ls (l ∷ []) in
    let low : b ≤ c = elim lifted [ inl s ↦ let e = s.0 in omega arith | inr s ↦ let e = s.0 in let f = s.1 in omega arith ] in
    let last : c < l.level → ClauseTrue x l.clause = λ lt. elim lifted [
      | inl s ↦ elim s.1 [ inl t ↦ t | inr le ↦ let e = s.0 in absurd (omega arith) ]
      | inr s ↦ let e = s.0 in absurd (omega arith)
    ] in
    record {
      above = λ n lt high. elim (cases_eq n (length ls)) [
        | inl e ↦
            let is : lemma_at (ls ++ l ∷ []) n ≡ l = lemma_last ls l n (sym e) in
            let high' : c < l.level = subst (λ (z : Lemma). c < z.level) is high in
            subst (λ (z : Lemma). ClauseTrue x z.clause) (sym is) (last high')
        | inr ne ↦
            let in' : n < length ls = omega (arith, ne) in
            let is : lemma_at (ls ++ l ∷ []) n ≡ lemma_at ls n = lemma_old ls l n in' in
            let high' : c < (lemma_at ls n).level = subst (λ (z : Lemma). c < z.level) is high in
            subst (λ (z : Lemma). ClauseTrue x z.clause) (sym is) (h.above n in' (omega arith))
      ];
      at' = elim lifted [
        | inl s ↦ elim h.at' [
          | inl z ↦ inl (s.0 ∙ z)
          | inr w ↦
              let is : lemma_at (ls ++ l ∷ []) w.0 ≡ lemma_at ls w.0 = lemma_old ls l w.0 w.1 in
              inr (
                w.0,
                omega (arith, w.1),
                ap (λ (z : Lemma). z.level) is ∙ w.2 ∙ sym s.0,
                subst (λ (z : Lemma). ClauseTrue x z.clause → ⊥) (sym is) w.3,
              )
        ]
        | inr s ↦
            let is : lemma_at (ls ++ l ∷ []) (length ls) ≡ l = lemma_last ls l (length ls) refl in
            inr (length ls, omega arith, ap (λ (z : Lemma). z.level) is ∙ sym s.0, subst (λ (z : Lemma). ClauseTrue x z.clause → ⊥) (sym is) s.2)
      ];
    }

pub blocked_added : (ls : List Lemma) (os : List Obligation) (l : Lemma) (bs cs : List ℕ) → AreBlocked ls os bs → length cs ≡ length bs →
    ((o : ℕ) → o < length bs → IsLifted l (assignment_of (obligation_at os o).values) (blocked_at bs o) (blocked_at cs o)) → AreBlocked (ls ++ l ∷ []) os cs
blocked_added ls os l bs cs h len each =
    record {
      as_many = len ∙ h.as_many;
      each = λ o lt. blocked_more ls l (assignment_of (obligation_at os o).values) (blocked_at bs o) (blocked_at cs o) (h.each o lt)
          (each o (let e = h.as_many in omega arith));
    }

-- a lemma is raised
blocked_higher : (ls : List Lemma) (n level : ℕ) (x : ℕ → Bool) (b c : ℕ) → n < length ls → (lemma_at ls n).level ≤ level → IsBlockedTo ls b x →
    IsLifted (lemma_at (raised_at ls n level) n) x b c → IsBlockedTo (raised_at ls n level) c x
blocked_higher ls n level x b c lt higher h lifted =
    let old : Lemma = lemma_at ls n in
    let l : Lemma = record { clause = old.clause; level = level; live = old.live } in
    let more : List Lemma = raised_at ls n level in
    let len : length more ≡ length ls = length-set ls n l in
    let here : lemma_at more n ≡ l = get_or-set_same ls n l no_lemma lt in
    let lifted' : IsLifted l x b c = subst (λ (z : Lemma). IsLifted z x b c) here lifted in
    let low : b ≤ c = elim lifted' [ inl s ↦ let e = s.0 in omega arith | inr s ↦ let e = s.0 in let f = s.1 in omega arith ] in
    let last : c < level → ClauseTrue x old.clause = λ high. elim lifted' [
      | inl s ↦ elim s.1 [ inl t ↦ t | inr le ↦ let e = s.0 in absurd (omega arith) ]
      | inr s ↦ let e = s.0 in absurd (omega arith)
    ] in
    record {
      above = λ k in' high. elim (cases_eq k n) [
        | inl e ↦
            let is : lemma_at more k ≡ l = ap (lemma_at more) e ∙ here in
            let high' : c < level = subst (λ (z : Lemma). c < z.level) is high in
            subst (λ (z : Lemma). ClauseTrue x z.clause) (sym is) (last high')
        | inr ne ↦
            let is : lemma_at more k ≡ lemma_at ls k = get_or-set_other ls n k l no_lemma ne in
            let high' : c < (lemma_at ls k).level = subst (λ (z : Lemma). c < z.level) is high in
            subst (λ (z : Lemma). ClauseTrue x z.clause) (sym is) (h.above k (omega arith) (omega arith))
      ];
      at' = elim lifted' [
        | inl s ↦ elim h.at' [
          | inl z ↦ inl (s.0 ∙ z)
          | inr w ↦ elim (cases_eq w.0 n) [
            | inl e ↦
                let old_level : old.level ≡ b = ap (λ (k : ℕ). (lemma_at ls k).level) (sym e) ∙ w.2 in
                let unmet : ClauseTrue x old.clause → ⊥ = subst (λ (k : ℕ). ClauseTrue x (lemma_at ls k).clause → ⊥) e w.3 in
                let same : level ≤ b = elim s.1 [ inl t ↦ absurd (unmet t) | inr le ↦ le ] in
                let cb : c ≡ b = s.0 in
                inr (
                  n,
                  omega arith,
                  ap (λ (z : Lemma). z.level) here ∙ omega arith,
                  subst (λ (z : Lemma). ClauseTrue x z.clause → ⊥) (sym here) unmet,
                )
            | inr ne ↦
                let is : lemma_at more w.0 ≡ lemma_at ls w.0 = get_or-set_other ls n w.0 l no_lemma ne in
                inr (
                  w.0,
                  omega (arith, w.1),
                  ap (λ (z : Lemma). z.level) is ∙ w.2 ∙ sym s.0,
                  subst (λ (z : Lemma). ClauseTrue x z.clause → ⊥) (sym is) w.3,
                )
          ]
        ]
        | inr s ↦ inr (n, omega arith, ap (λ (z : Lemma). z.level) here ∙ sym s.0, subst (λ (z : Lemma). ClauseTrue x z.clause → ⊥) (sym here) s.2)
      ];
    }

pub blocked_raised : (ls : List Lemma) (os : List Obligation) (n level : ℕ) (bs cs : List ℕ) → AreBlocked ls os bs → n < length ls →
    (lemma_at ls n).level ≤ level → length cs ≡ length bs →
    ((o : ℕ) → o < length bs → IsLifted (lemma_at (raised_at ls n level) n) (assignment_of (obligation_at os o).values) (blocked_at bs o) (blocked_at cs o)) →
    AreBlocked (raised_at ls n level) os cs
blocked_raised ls os n level bs cs h lt higher len each =
    record {
      as_many = len ∙ h.as_many;
      each = λ o in'. blocked_higher ls n level (assignment_of (obligation_at os o).values) (blocked_at bs o) (blocked_at cs o) lt higher (h.each o in')
          (each o (let e = h.as_many in omega arith));
    }

pub raised_length : (ls : List Lemma) (n level : ℕ) → length (raised_at ls n level) ≡ length ls
raised_length ls n level = length-set ls n record { clause = (lemma_at ls n).clause; level = level; live = (lemma_at ls n).live }

pub raised_clause : (ls : List Lemma) (n level : ℕ) → n < length ls → (k : ℕ) → (lemma_at (raised_at ls n level) k).clause ≡ (lemma_at ls k).clause
raised_clause ls n level lt k =
    let l : Lemma = record { clause = (lemma_at ls n).clause; level = level; live = (lemma_at ls n).live } in
    elim (cases_eq k n) [
      | inl e ↦
          ap (λ (z : Lemma). z.clause) (ap (lemma_at (raised_at ls n level)) e ∙ get_or-set_same ls n l no_lemma lt) ∙ ap (λ (m : ℕ). (lemma_at ls m).clause) (sym e)
      | inr ne ↦ ap (λ (z : Lemma). z.clause) (get_or-set_other ls n k l no_lemma ne)
    ]

-- a lemma is retired
pub retired_clause : (ls : List Lemma) (n k : ℕ) → n < length ls → ((lemma_at (retired_at ls n) k).clause ≡ (lemma_at ls k).clause) × ((lemma_at (retired_at ls n) k).level ≡ (lemma_at ls k).level)
retired_clause ls n k lt =
    let old : Lemma = lemma_at ls n in
    let l : Lemma = record { clause = old.clause; level = old.level; live = false } in
    elim (cases_eq k n) [
      | inl e ↦
          let is : lemma_at (retired_at ls n) k ≡ l = ap (lemma_at (retired_at ls n)) e ∙ get_or-set_same ls n l no_lemma lt in (
            ap (λ (z : Lemma). z.clause) is ∙ ap (λ (m : ℕ). (lemma_at ls m).clause) (sym e),
            ap (λ (z : Lemma). z.level) is ∙ ap (λ (m : ℕ). (lemma_at ls m).level) (sym e),
          )
      | inr ne ↦
          let is : lemma_at (retired_at ls n) k ≡ lemma_at ls k = get_or-set_other ls n k l no_lemma ne in
          (ap (λ (z : Lemma). z.clause) is, ap (λ (z : Lemma). z.level) is)
    ]

pub retired_length : (ls : List Lemma) (n : ℕ) → length (retired_at ls n) ≡ length ls
retired_length ls n = length-set ls n record { clause = (lemma_at ls n).clause; level = (lemma_at ls n).level; live = false }

pub blocked_retired : (ls : List Lemma) (os : List Obligation) (n : ℕ) (bs : List ℕ) → AreBlocked ls os bs → n < length ls →
    AreBlocked (retired_at ls n) os bs
blocked_retired ls os n bs h lt =
    let len : length (retired_at ls n) ≡ length ls = retired_length ls n in
    record {
      as_many = h.as_many;
      each = λ o in'.
          let b = h.each o in' in
          let x : ℕ → Bool = assignment_of (obligation_at os o).values in
          record {
            above = λ k below high.
                let is = retired_clause ls n k lt in
                let high' : blocked_at bs o < (lemma_at ls k).level = subst (λ (z : ℕ). blocked_at bs o < z) is.1 high in
                subst (ClauseTrue x) (sym is.0) (b.above k (omega arith) high');
            at' = elim b.at' [
              | inl z ↦ inl z
              | inr w ↦
                  let is = retired_clause ls n w.0 lt in
                  inr (w.0, omega (arith, w.1), is.1 ∙ w.2, subst (λ (c : List Lit). ClauseTrue x c → ⊥) (sym is.0) w.3)
            ];
          };
    }

-- an obligation is noted
pub blocked_noted : (ls : List Lemma) (os : List Obligation) (o : Obligation) (bs : List ℕ) (b : ℕ) → AreBlocked ls os bs →
    IsBlockedTo ls b (assignment_of o.values) → AreBlocked ls (os ++ o ∷ []) (bs ++ b ∷ [])
blocked_noted ls os o bs b h new =
    let len : length (os ++ o ∷ []) ≡ length os + 1 = length-append os (o ∷ []) in
    let blen : length (bs ++ b ∷ []) ≡ length bs + 1 = length-append bs (b ∷ []) in
    let many : length bs ≡ length os = h.as_many in
    record {
      as_many = omega arith;
      each = λ n lt. elim (cases_eq n (length os)) [
        | inl e ↦
            let is : obligation_at (os ++ o ∷ []) n ≡ o = obligation_last os o n (sym e) in
            let bis : blocked_at (bs ++ b ∷ []) n ≡ b = get_or_push bs b 0 n (many ∙ sym e) in
            subst (λ (z : ℕ). IsBlockedTo ls z (assignment_of (obligation_at (os ++ o ∷ []) n).values)) (sym bis)
            (subst (λ (z : Obligation). IsBlockedTo ls b (assignment_of z.values)) (sym is) new)
        | inr ne ↦
            let in' : n < length os = omega (arith, ne) in
            let is : obligation_at (os ++ o ∷ []) n ≡ obligation_at os n = obligation_old os o n in' in
            let bis : blocked_at (bs ++ b ∷ []) n ≡ blocked_at bs n = get_or-append bs (b ∷ []) 0 n (omega arith) in
            subst (λ (z : ℕ). IsBlockedTo ls z (assignment_of (obligation_at (os ++ o ∷ []) n).values)) (sym bis)
            (subst (λ (z : Obligation). IsBlockedTo ls (blocked_at bs n) (assignment_of z.values)) (sym is) (h.each n in'))
      ];
    }

-- ---- What the calls on the frames answer

pub is_lower : (ls : List Lemma) (n level : ℕ) → (IsAsHigh ls n level → ⊥) → (lemma_at ls n).level < level
is_lower ls n level low = lt_of_not-le (λ le. low (inr le))

pub noted_is : (f now : FrameState) (j : ℕ) (g : FoundState) (parent : Option ℕ) (r : Noting) → NotesSame f j g parent r now → now ≡ with_obligation f j g parent
noted_is f now j g parent (Noted n) h = h.1
noted_is f now j g parent (OtherSystem place) h = absurd h
