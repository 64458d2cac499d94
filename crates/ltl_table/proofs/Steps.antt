-- One step of a column's computation.
use Rattle.std.proofs.Common.{◌≡◌, ℕ, suc, ◌+◌, ◌-◌, ◌<◌, ◌≤◌, inl, inr, Bool, false, List, [], ◌∷◌, ◌++◌, length, refl, sym, ap, ◌∙◌, subst, arith, add-one, get_or-set_same, get_or-set_other}
use Rattle.std.specs.Prelude.{◌↔◌, IsTrue, slice_set}
use Rattle.std.proofs.Math.ListN.{get_or-append}
use Rattle.std.proofs.Math.Seq.{get_or-append_seam}
use Rattle.std.proofs.lemmas.Bool.{cases_eq}
use Rattle.ltl_table.specs.declared.rules.Step.{Step}
use Rattle.ltl_table.specs.Columns.{at, stepped, outset, back, forth}

pub back_step : (u : Step) (p q : List Bool) (t n : ℕ) (z : Bool) → t < n →
    back u p q t (n - t) z ≡ stepped u (at p t) (at q t) (back u p q (t + 1) (n - (t + 1)) z)
unfolding back
back_step u p q t n z h = let e : n - t ≡ suc (n - (t + 1)) = omega arith in ap (λ d. back u p q t d z) e

pub back_end : (u : Step) (p q : List Bool) (n : ℕ) (z : Bool) → back u p q n (n - n) z ≡ z
unfolding back
back_end u p q n z = let e : n - n ≡ 0 = omega arith in ap (λ d. back u p q n d z) e

pub forth_step : (u : Step) (p q : List Bool) (t : ℕ) → forth u p q (t + 1) ≡ stepped u (at p t) (at q t) (forth u p q t)
unfolding forth
forth_step u p q t = ap (forth u p q) (add-one t)

pub forth_zero : (u : Step) (p q : List Bool) → forth u p q 0 ≡ outset u
unfolding forth
forth_zero u p q = refl

-- the value one time earlier
pub back_before : (u : Step) (p q : List Bool) (t n : ℕ) (z value : Bool) → 0 < t → t ≤ n → value ≡ back u p q t (n - t) z →
    stepped u (at p (t - 1)) (at q (t - 1)) value ≡ back u p q (t - 1) (n - (t - 1)) z
back_before u p q t n z value some le is =
    let e : t - 1 + 1 ≡ t = omega arith in
    ap (stepped u (at p (t - 1)) (at q (t - 1))) (is ∙ ap (λ j. back u p q j (n - j) z) (sym e))
    ∙ sym (back_step u p q (t - 1) n z (omega arith))

-- a column filled from its end, one place more
pub filled_more : (xs : List Bool) (B : ℕ → Bool) (i n : ℕ) (v : Bool) → length xs ≡ n → 0 < i → i ≤ n → v ≡ B (i - 1) →
    ((k : ℕ) → i ≤ k → k < n → at xs k ≡ B k) → (k : ℕ) → i - 1 ≤ k → k < n → at (slice_set xs (i - 1) v) k ≡ B k
filled_more xs B i n v len some le here rest k lo hi = elim (cases_eq k (i - 1)) [
  | inl e ↦
      let lt : k < length xs = omega arith in
      subst (λ j. at (slice_set xs j v) k ≡ B k) e (get_or-set_same xs k v false lt ∙ here ∙ ap B (sym e))
  | inr ne ↦ get_or-set_other xs (i - 1) k v false ne ∙ rest k (omega arith) hi
]

-- a column grown at its end, one place more
pub grown_more : (xs ys : List Bool) (B : ℕ → Bool) (i : ℕ) (v : Bool) → length xs ≡ i → ys ≡ xs ++ v ∷ [] → v ≡ B i →
    ((k : ℕ) → k < i → at xs k ≡ B k) → (k : ℕ) → k < i + 1 → at ys k ≡ B k
grown_more xs ys B i v len made here before k h = elim (cases_eq k i) [
  | inl e ↦ ap (λ zs. at zs k) made ∙ ap (λ j. at (xs ++ v ∷ []) j) (e ∙ sym len) ∙ get_or-append_seam xs v [] false ∙ here ∙ ap B (sym e)
  | inr ne ↦
      let lt : k < length xs = omega arith in
      ap (λ zs. at zs k) made ∙ get_or-append xs (v ∷ []) false k lt ∙ before k (omega arith)
]

-- a column that says when P holds, one time longer
pub told_more : (xs ys : List Bool) (P : ℕ → Type 0) (i : ℕ) (v : Bool) → length xs ≡ i → ys ≡ xs ++ v ∷ [] → (IsTrue v ↔ P i) →
    ((k : ℕ) → k < i → IsTrue (at xs k) ↔ P k) → (k : ℕ) → k < i + 1 → IsTrue (at ys k) ↔ P k
told_more xs ys P i v len made here before k h = elim (cases_eq k i) [
  | inl e ↦
      let same : at ys k ≡ v = ap (λ zs. at zs k) made ∙ ap (λ j. at (xs ++ v ∷ []) j) (e ∙ sym len) ∙ get_or-append_seam xs v [] false in
      subst (λ b. IsTrue b ↔ P k) (sym same) (subst (λ j. IsTrue v ↔ P j) (sym e) here)
  | inr ne ↦
      let lt : k < length xs = omega arith in
      let same : at ys k ≡ at xs k = ap (λ zs. at zs k) made ∙ get_or-append xs (v ∷ []) false k lt in
      subst (λ b. IsTrue b ↔ P k) (sym same) (before k (omega arith))
]
