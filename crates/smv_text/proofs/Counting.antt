-- Numbers that digits write.
use Rattle.std.proofs.Common.{◌≡◌, ℕ, zero, suc, ◌+◌, ◌*◌, ◌^◌, ◌<◌, ◌≤◌, Bool, true, false, cond, List, [], ◌∷◌, length, drop, get_or, refl, sym, arith, inl, inr}
use Rattle.std.specs.Prelude.{◌==◌, ◌&&◌, nat_lt, nat_le}
use Rattle.std.proofs.Math.Seq.{drop-cons}
use Rattle.std.proofs.Math.Nat.{mul-le-mul_left}
use Rattle.std.specs.Char.{digit_value}
use Rattle.std.proofs.Math.Pow.{pow_mono}
use Rattle.std.proofs.Math.Bool.{and-false}
use Rattle.std.proofs.lemmas.Bool.{le-ltb, cases_lt, eqb-true}
use Rattle.smv_text.specs.Numbers.{underscore, number_behind, number_in, base_of, fits_width}

pub number_grows : (base n : ℕ) (digits : List ℕ) → 1 ≤ base → n ≤ number_behind base n digits
number_grows base n [] h = omega arith
number_grows base n (d ∷ digits) h = go (d == underscore) (number_grows base n digits h) (number_grows base (n * base + digit_value d) digits h)
  where
    go : (k : Bool) → n ≤ number_behind base n digits → n * base + digit_value d ≤ number_behind base (n * base + digit_value d) digits
        → n ≤ cond k (number_behind base n digits) (number_behind base (n * base + digit_value d) digits)
    go true a b = a
    go false a b = omega (arith, mul-le-mul_left n h, b)

-- two numbers that are not the same are not found to be
pub other_eqb : (n m : ℕ) → (n ≡ m → ⊥) → (n == m) ≡ false
other_eqb n m h = go (n == m) refl
  where
    go : (k : Bool) → (n == m) ≡ k → (n == m) ≡ false
    go true e = absurd (h (eqb-true n m e))
    go false e = e

-- one more digit, no underscore
pub number_step : (base n i total : ℕ) (digits : List ℕ) → i < length digits → (get_or digits i 0 == underscore) ≡ false → number_behind base n (drop i digits) ≡ total
    → number_behind base (n * base + digit_value (get_or digits i 0)) (drop (suc i) digits) ≡ total
number_step base n i total digits lt u e =
    let c = drop-cons digits i 0 lt in
    let h : number_behind base n (get_or digits i 0 ∷ drop (suc i) digits) ≡ total = rw c at e in
    rw u at h

-- a number that is too large stays so
pub too_large : (base n i total limit : ℕ) (digits : List ℕ) → 2 ≤ base → i < length digits → (get_or digits i 0 == underscore) ≡ false → number_behind base n (drop i digits) ≡ total
    → limit ≤ n * base + digit_value (get_or digits i 0) → limit ≤ total
too_large base n i total limit digits h lt u e l =
    let s = number_step base n i total digits lt u e in
    let one : 1 ≤ base = omega arith in
    let g = number_grows base (n * base + digit_value (get_or digits i 0)) (drop (suc i) digits) one in
    omega (arith, s, g)

-- no digit is left
pub number_done : (base n i total : ℕ) (digits : List ℕ) → length digits ≤ i → number_behind base n (drop i digits) ≡ total → n ≡ total
number_done base n i total digits le e = let none : drop i digits ≡ [] = drop_all digits i le in rw none at e
  where
    drop_all : (ds : List ℕ) (k : ℕ) → length ds ≤ k → drop k ds ≡ []
    drop_all [] zero h = refl
    drop_all [] (suc k) h = refl
    drop_all (d ∷ ds) zero h = absurd (omega arith)
    drop_all (d ∷ ds) (suc k) h = drop_all ds k (omega arith)

-- a number that is too large for any width
pub too_wide : (letter base bits : ℕ) (digits : List ℕ) → base ≡ base_of letter → bits ≤ 128 → (number_in base digits < 2 ^ 128 → ⊥) → false ≡ fits_width letter bits digits
too_wide letter base bits digits e le h =
    let p : 2 ^ bits ≤ 2 ^ 128 = pow_mono le in
    let n : 2 ^ 128 ≤ number_in (base_of letter) digits = rw e at (least (number_in base digits) h) in
    let f : nat_lt (number_in (base_of letter) digits) (2 ^ bits) ≡ false = le-ltb (number_in (base_of letter) digits) (2 ^ bits) (omega (arith, p, n)) in
    rw f (sym (and-false (nat_le 1 bits && nat_le bits 128)))
  where
    least : (n : ℕ) → (n < 2 ^ 128 → ⊥) → 2 ^ 128 ≤ n
    least n g = elim (cases_lt n (2 ^ 128)) [ inl lt ↦ absurd (g lt) | inr ge ↦ ge ]
