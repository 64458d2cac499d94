-- Marks that are clear, and marks that are cleared.
use Rattle.std.proofs.Common.{◌≡◌, inl, inr, ℕ, zero, suc, ◌≤◌, Bool, false, List, [], ◌∷◌, length, refl, sym, subst, ◌∙◌, arith, set, replicate, length-set, get_or-set_same, get_or-set_other}
use Rattle.std.specs.Prelude.{slice_index_or}
use Rattle.std.proofs.lemmas.Bool.{cases_eq, cases_lt}

-- marks of which none is set
pub all_clear : (bs : List Bool) → ((k : ℕ) → slice_index_or bs k false ≡ false) → bs ≡ replicate (length bs) false
all_clear [] h = refl
all_clear (b ∷ bs) h =
    let first : b ≡ false = h zero in
    let others : bs ≡ replicate (length bs) false = all_clear bs (λ k. h (suc k)) in
    cc

pub past_end : (bs : List Bool) (k : ℕ) → length bs ≤ k → slice_index_or bs k false ≡ false
past_end [] k le = refl
past_end (b ∷ bs) zero le = absurd (omega arith)
past_end (b ∷ bs) (suc k) le = past_end bs k (omega arith)

pub reset_here : (bs : List Bool) (i : ℕ) → slice_index_or (set bs i false) i false ≡ false
reset_here bs i = elim (cases_lt i (length bs)) [
  | inl lt ↦ get_or-set_same bs i false false lt
  | inr le ↦ past_end (set bs i false) i (omega (arith, le, length-set bs i false))
]

pub reset_clear : (bs : List Bool) (i k : ℕ) → slice_index_or bs k false ≡ false → slice_index_or (set bs i false) k false ≡ false
reset_clear bs i k h = elim (cases_eq k i) [
  | inl e ↦ subst (λ (n : ℕ). slice_index_or (set bs i false) n false ≡ false) (sym e) (reset_here bs i)
  | inr ne ↦ get_or-set_other bs i k false false ne ∙ h
]
