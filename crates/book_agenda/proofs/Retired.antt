-- Retired lemmas need not be looked at, since a live one covers each of them.
use Rattle.std.proofs.Common.{◌≡◌, inl, inr, ℕ, ◌+◌, ◌-◌, ◌*◌, ◌<◌, ◌≤◌, Bool, true, false, List, length, refl, sym, ap, subst, ◌∙◌, arith}
use Rattle.std.proofs.lemmas.Bool.{cases_Bool, cases_eq, cases_lt}
use Rattle.std.proofs.lemmas.List.{get_or_past}
use Rattle.clause_core.specs.Assignments.{ClauseTrue}
use Rattle.frame_core.specs.declared.parts.Lemma.{Lemma}
use Rattle.frame_core.specs.FrameLaw.{FrameState, FramesHold, MeetsFrom, no_lemma, lemma_at}
use Rattle.frame_core.proofs.Changing.{ClauseTrue-part}
use Rattle.book_agenda.specs.Values.{IsBlockedLive, IsBlockedTo, IsLifted, MeetsAt, MeetsLive}

module _ (f : FrameState) (h : FramesHold f) (x : ℕ → Bool) where
  -- who meets the live lemmas of this level or more meets all of them
  pub met_all : (level : ℕ) → MeetsLive f.lemmas level x → MeetsFrom f.lemmas level x
  met_all level met n lt le =
      elim (cases_Bool (lemma_at f.lemmas n).live) [
        | inl on ↦ met n lt on le
        | inr off ↦
            let c = (h.lemmas 0 h.some).covered n lt off in
            ClauseTrue-part x (lemma_at f.lemmas c.0).clause (lemma_at f.lemmas n).clause c.2.1 (met c.0 c.1 c.2.0 (omega (arith, c.2.2)))
      ]

  -- the level to which a state is blocked by live lemmas is that to which all block it
  pub blocked_all : (level : ℕ) → IsBlockedLive f.lemmas (length f.lemmas) level x → IsBlockedTo f.lemmas level x
  blocked_all level b =
      record {
        above = λ n lt high. elim (cases_Bool (lemma_at f.lemmas n).live) [
          | inl on ↦ b.above n lt on high
          | inr off ↦
              let c = (h.lemmas 0 h.some).covered n lt off in
              ClauseTrue-part x (lemma_at f.lemmas c.0).clause (lemma_at f.lemmas n).clause c.2.1 (b.above c.0 c.1 c.2.0 (omega (arith, high, c.2.2)))
        ];
        at' = b.at';
      }

module _ (ls : List Lemma) (n level now : ℕ) (x : ℕ → Bool) (h : IsBlockedLive ls n level x) where
  -- a retired lemma is passed over
  pub passed : (lemma_at ls n).live ≡ false → now ≡ level → IsBlockedLive ls (n + 1) now x
  passed off e =
      record {
        above = λ k lt on high. elim (cases_eq k n) [
          | inl is ↦ let no : true ≡ false = sym (subst (λ (i : ℕ). (lemma_at ls i).live ≡ true) is on) ∙ off in cc
          | inr other ↦ h.above k (omega (arith, other)) on (omega (arith, e, high))
        ];
        at' = elim h.at' [
          | inl z ↦ inl (e ∙ z)
          | inr w ↦ inr (w.0, omega (arith, w.1), w.2 ∙ sym e, w.3)
        ];
      }

  -- a live lemma more
  pub lifted_more : IsLifted (lemma_at ls n) x level now → IsBlockedLive ls (n + 1) now x
  lifted_more lifted =
      let low : level ≤ now = elim lifted [ inl s ↦ let e = s.0 in omega arith | inr s ↦ let e = s.0 in let g = s.1 in omega arith ] in
      let last : now < (lemma_at ls n).level → ClauseTrue x (lemma_at ls n).clause = λ lt. elim lifted [
        | inl s ↦ elim s.1 [ inl t ↦ t | inr le ↦ let e = s.0 in absurd (omega arith) ]
        | inr s ↦ let e = s.0 in absurd (omega arith)
      ] in
      record {
        above = λ k lt on high. elim (cases_eq k n) [
          | inl is ↦
              let high' : now < (lemma_at ls n).level = subst (λ (i : ℕ). now < (lemma_at ls i).level) is high in
              subst (λ (i : ℕ). ClauseTrue x (lemma_at ls i).clause) (sym is) (last high')
          | inr other ↦ h.above k (omega (arith, other)) on (omega (arith, low, high))
        ];
        at' = elim lifted [
          | inl s ↦ elim h.at' [
            | inl z ↦ inl (s.0 ∙ z)
            | inr w ↦ inr (w.0, omega (arith, w.1), w.2 ∙ sym s.0, w.3)
          ]
          | inr s ↦ inr (n, omega arith, sym s.0, s.2)
        ];
      }

  -- a lemma more, which is met
  pub met_one : ClauseTrue x (lemma_at ls n).clause → now ≡ level → IsBlockedLive ls (n + 1) now x
  met_one met e = lifted_more (inl (e, inl met))

module _ (ls : List Lemma) (n level : ℕ) (x : ℕ → Bool) where
  -- there is no lemma to be met
  pub none_left : length ls ≤ n → IsBlockedLive ls n level x → IsBlockedLive ls (n + 1) level x
  none_left past h = passed ls n level level x h (ap (λ (z : Lemma). z.live) (get_or_past ls n no_lemma past)) refl

  -- some lemmas more, all of which are met
  pub met_many : (count : ℕ) → ((b : ℕ) → b < count → ClauseTrue x (lemma_at ls (n + b)).clause) → IsBlockedLive ls n level x → IsBlockedLive ls (n + count) level x
  met_many count met h =
      record {
        above = λ k lt on high. elim (cases_lt k n) [
          | inl old ↦ h.above k old on high
          | inr new ↦
              let e : n + (k - n) ≡ k = omega arith in
              subst (λ (i : ℕ). ClauseTrue x (lemma_at ls i).clause) e (met (k - n) (omega arith))
        ];
        at' = elim h.at' [
          | inl z ↦ inl z
          | inr w ↦ inr (w.0, omega (arith, w.1), w.2, w.3)
        ];
      }

-- a part of 64 lemmas more is met
pub part_more : (ls : List Lemma) (c level : ℕ) (x : ℕ → Bool) → ((n : ℕ) → n < c * 64 → MeetsAt (lemma_at ls n) level x) →
    ((b : ℕ) → b < 64 → MeetsAt (lemma_at ls (c * 64 + b)) level x) → (n : ℕ) → n < (c + 1) * 64 → MeetsAt (lemma_at ls n) level x
part_more ls c level x before more n lt = elim (cases_lt n (c * 64)) [
  | inl old ↦ before n old
  | inr new ↦
      let b : ℕ = n - c * 64 in
      let e : c * 64 + b ≡ n = omega arith in
      subst (λ (i : ℕ). MeetsAt (lemma_at ls i) level x) e (more b (omega arith))
]
