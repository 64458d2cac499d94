-- What the law says of reached states, and of a level without live lemmas.
use Rattle.std.proofs.Common.{◌≡◌, ◌≢◌, ℕ, zero, suc, ◌+◌, ◌<◌, ◌≤◌, Bool, true, List, length, subst, inl, inr, arith}
use Rattle.std.proofs.lemmas.Bool.{cases_Bool}
use Rattle.clause_core.specs.Assignments.{ClauseTrue}
use Rattle.clause_core.specs.Systems.{TransitionSystem, ReachedWithin}
use Rattle.frame_core.specs.declared.parts.Lemma.{Lemma}
use Rattle.frame_core.proofs.Changing.{ClauseTrue-part}
use Rattle.frame_core.specs.FrameLaw.{lemma_at, MeetsFrom, LemmasHold, IsSafe, IsInvariant}

-- a lemma of level i holds in each state that is reached in at most i steps
pub holds_within : (sys : TransitionSystem) (ls : List Lemma) → LemmasHold sys ls → (j : ℕ) (x : ℕ → Bool) → ReachedWithin sys j x →
    (n : ℕ) → n < length ls → j ≤ (lemma_at ls n).level → ClauseTrue x (lemma_at ls n).clause
holds_within sys ls h zero x first n lt le = h.first n lt x first
holds_within sys ls h (suc j) x (inl w) n lt le = holds_within sys ls h j x w n lt (omega arith)
holds_within sys ls h (suc j) x (inr w) n lt le =
    h.step n lt w.0 x (
      (λ e. let z : j ≡ 0 = omega arith in let P : ℕ → Type 0 = λ k. ReachedWithin sys k w.0 in subst P z w.1),
      (λ some m lt' le'. holds_within sys ls h j w.0 w.1 m lt' (omega arith)),
    ) w.2

-- where no live lemma has this level, who meets all above it meets those of this level too
pub next_frame : (sys : TransitionSystem) (ls : List Lemma) (i : ℕ) (x : ℕ → Bool) → LemmasHold sys ls →
    ((n : ℕ) → n < length ls → (lemma_at ls n).live ≡ true → (lemma_at ls n).level ≢ i) → MeetsFrom ls (i + 1) x → MeetsFrom ls i x
next_frame sys ls i x h none m n lt le =
    elim (cases_Bool (lemma_at ls n).live) [
      | inl on ↦ let ne = none n lt on in m n lt (omega arith)
      | inr off ↦
          let c = h.covered n lt off in
          let ne = none c.0 c.1 c.2.0 in
          ClauseTrue-part x (lemma_at ls c.0).clause (lemma_at ls n).clause c.2.1 (m c.0 c.1 (omega (arith, c.2.2)))
    ]

pub inductive_live : (sys : TransitionSystem) (ls : List Lemma) (top i : ℕ) → LemmasHold sys ls → IsSafe sys ls top → 0 < i → i < top →
    ((n : ℕ) → n < length ls → (lemma_at ls n).live ≡ true → (lemma_at ls n).level ≢ i) → IsInvariant sys ls (i + 1)
inductive_live sys ls top i h safe' some below none =
    record {
      first = λ x f n lt le. h.first n lt x f;
      step = λ x y m step n lt le. h.step n lt x y ((λ e. absurd (omega arith)), (λ _ k lt' le'. next_frame sys ls i x h none m k lt' (omega arith))) step;
      safe = λ x m. safe' i below x ((λ e. absurd (omega arith)), (λ _. next_frame sys ls i x h none m));
    }
