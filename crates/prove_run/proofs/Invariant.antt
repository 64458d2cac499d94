-- The lemmas above an empty level, as an invariant.
use Rattle.std.proofs.Common.{◌≡◌, ℕ, zero, suc, ◌+◌, ◌<◌, Bool, true, false, List, [], ◌∷◌, length, refl, sym, subst, ap, ◌∙◌, inl, inr, arith}
use Rattle.std.specs.Prelude.{All, ◌&&◌, nat_lt, map, filter, Some, None}
use Rattle.std.proofs.lemmas.Bool.{cases_Bool, cases_lt, lt-ltb, le-ltb}
use Rattle.std.proofs.lemmas.List.Elements.{All-nil, All-cons, All-head, All-tail}
use Rattle.clause_core.specs.declared.literal.Lit.{Lit}
use Rattle.clause_core.specs.Literals.{Within}
use Rattle.clause_core.specs.Assignments.{ClauseTrue}
use Rattle.clause_core.specs.Systems.{TransitionSystem}
use Rattle.cert_core.specs.Certificates.{IsInvariant}
use Rattle.frame_core.specs.declared.parts.Lemma.{Lemma}
use Rattle.frame_core.specs.declared.outcomes.FramesVerdict.TheVariants.{Invariant, Reached}
use Rattle.frame_core.specs.FrameLaw.{FrameState, FramesHold, LemmasHold, MeetsFrom, lemma_at, system_at}
use Rattle.frame_core.specs.FrameLaw.{IsInvariant as IsFrameInvariant}
use Rattle.frame_core.specs.Changes.{VerdictSays}
use Rattle.frame_core.proofs.Changing.{ClauseTrue-part}
use Rattle.frame_history.specs.History.{HasVerdict}
use Rattle.prove_run.specs.Certifying.{clauses_above, is_above}

no_way : false ≡ true → ⊥
no_way e = let h : false ≡ true = e in cc

both_false : (a b : Bool) → b ≡ false → (a && b) ≡ false
both_false true b e = e
both_false false b e = refl

keeps : (p : Lemma → Bool) (l : Lemma) (ls : List Lemma) → p l ≡ true → filter p (l ∷ ls) ≡ l ∷ filter p ls
keeps p l ls e = rw e refl

drops : (p : Lemma → Bool) (l : Lemma) (ls : List Lemma) → p l ≡ false → filter p (l ∷ ls) ≡ filter p ls
drops p l ls e = rw e refl

-- who meets the clauses meets each lemma that is above
meets_each : (x : ℕ → Bool) (i : ℕ) (ls : List Lemma) → All (ClauseTrue x) (clauses_above i ls) → (n : ℕ) → n < length ls →
    is_above i (lemma_at ls n) ≡ true → ClauseTrue x (lemma_at ls n).clause
meets_each x i [] h n lt on = absurd (omega (arith, lt))
meets_each x i (l ∷ ls) h zero lt on =
    let e : clauses_above i (l ∷ ls) ≡ l.clause ∷ clauses_above i ls = ap (λ (z : List Lemma). map (λ (m : Lemma). m.clause) z) (keeps (is_above i) l ls on) in
    All-head (ClauseTrue x) l.clause (clauses_above i ls) (subst (All (ClauseTrue x)) e h)
meets_each x i (l ∷ ls) h (suc n) lt on = elim (cases_Bool (is_above i l)) [
  | inl here ↦
      let e : clauses_above i (l ∷ ls) ≡ l.clause ∷ clauses_above i ls = ap (λ (z : List Lemma). map (λ (m : Lemma). m.clause) z) (keeps (is_above i) l ls here) in
      meets_each x i ls (All-tail (ClauseTrue x) l.clause (clauses_above i ls) (subst (All (ClauseTrue x)) e h)) n (omega (arith, lt)) on
  | inr off ↦
      let e : clauses_above i (l ∷ ls) ≡ clauses_above i ls = ap (λ (z : List Lemma). map (λ (m : Lemma). m.clause) z) (drops (is_above i) l ls off) in
      meets_each x i ls (subst (All (ClauseTrue x)) e h) n (omega (arith, lt)) on
]

-- what holds of each lemma that is above holds of each of the clauses
pub all_above : (P : List Lit → Type 0) (i : ℕ) (ls : List Lemma) → ((n : ℕ) → n < length ls → is_above i (lemma_at ls n) ≡ true → P (lemma_at ls n).clause) →
    All P (clauses_above i ls)
all_above P i [] h = All-nil P
all_above P i (l ∷ ls) h =
    let rest : All P (clauses_above i ls) = all_above P i ls (λ n lt on. h (suc n) (omega (arith, lt)) on) in
    elim (cases_Bool (is_above i l)) [
      | inl here ↦
          let e : clauses_above i (l ∷ ls) ≡ l.clause ∷ clauses_above i ls = ap (λ (z : List Lemma). map (λ (m : Lemma). m.clause) z) (keeps (is_above i) l ls here) in
          subst (All P) (sym e) (All-cons P l.clause (clauses_above i ls) (h 0 (omega arith) here) rest)
      | inr off ↦
          let e : clauses_above i (l ∷ ls) ≡ clauses_above i ls = ap (λ (z : List Lemma). map (λ (m : Lemma). m.clause) z) (drops (is_above i) l ls off) in
          subst (All P) (sym e) rest
    ]

above_of : (i : ℕ) (l : Lemma) → l.live ≡ true → i < l.level → is_above i l ≡ true
above_of i l live up = let a : (l.live && nat_lt i l.level) ≡ nat_lt i l.level = rw live refl in a ∙ lt-ltb i l.level up

level_of : (i : ℕ) (l : Lemma) → is_above i l ≡ true → i < l.level
level_of i l on = elim (cases_lt i l.level) [
  | inl up ↦ up
  | inr low ↦
      let off : nat_lt i l.level ≡ false = le-ltb i l.level (omega (arith, low)) in
      absurd (no_way (sym (both_false l.live (nat_lt i l.level) off) ∙ on))
]

-- who meets the clauses meets all lemmas of greater levels, since live ones cover the retired
meets_above : (sys : TransitionSystem) (ls : List Lemma) (i : ℕ) (x : ℕ → Bool) → LemmasHold sys ls → All (ClauseTrue x) (clauses_above i ls) →
    MeetsFrom ls (i + 1) x
meets_above sys ls i x h all n lt up = elim (cases_Bool (lemma_at ls n).live) [
  | inl on ↦ meets_each x i ls all n lt (above_of i (lemma_at ls n) on (omega (arith, up)))
  | inr off ↦
      let c = h.covered n lt off in
      let m : ℕ = c.0 in
      let high : i < (lemma_at ls m).level = let e = c.2.2 in omega (arith, up) in
      ClauseTrue-part x (lemma_at ls m).clause (lemma_at ls n).clause c.2.1 (meets_each x i ls all m c.1 (above_of i (lemma_at ls m) c.2.0 high))
]

clauses_met : (ls : List Lemma) (i : ℕ) (x : ℕ → Bool) → MeetsFrom ls (i + 1) x → All (ClauseTrue x) (clauses_above i ls)
clauses_met ls i x meets = all_above (ClauseTrue x) i ls (λ n lt on. meets n lt (let up = level_of i (lemma_at ls n) on in omega (arith, up)))

pub invariant_of : (f : FrameState) (j i : ℕ) → FramesHold f → j < length f.systems → VerdictSays f j (Some (Invariant i)) →
    IsInvariant (system_at f.systems j) (clauses_above i f.lemmas)
invariant_of f j i holds lt says =
    let sys : TransitionSystem = system_at f.systems j in
    let h : LemmasHold sys f.lemmas = holds.lemmas j lt in
    let is : IsFrameInvariant sys f.lemmas (i + 1) = says.3 in
    record {
      initial = λ x first. clauses_met f.lemmas i x (is.first x first);
      kept = λ x y all step. clauses_met f.lemmas i y (is.step x y (meets_above sys f.lemmas i x h all) step);
      safe = λ x all bad. is.safe x (meets_above sys f.lemmas i x h all) bad;
    }

-- the clauses are over state bits
pub above_within : (f : FrameState) (j i : ℕ) → FramesHold f → j < length f.systems → All (Within (system_at f.systems j).state_bits) (clauses_above i f.lemmas)
above_within f j i holds lt = all_above (Within (system_at f.systems j).state_bits) i f.lemmas (λ n below on. (holds.lemmas j lt).within n below)

pub no_verdict : (f : FrameState) (j : ℕ) → VerdictSays f j None → HasVerdict f j → ⊥
no_verdict f j none (Invariant i, says) =
    let live = none.0 i says.0 says.1 in
    says.2 live.0 live.1 live.2 live.3
no_verdict f j none (Reached n, says) = none.1 n says.0 says.1 says.2
