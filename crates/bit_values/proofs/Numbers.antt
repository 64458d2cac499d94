-- Bits of numbers.
use Rattle.std.proofs.Common.{◌≡◌, ℕ, zero, suc, ◌+◌, ◌-◌, ◌*◌, ◌/◌, ◌%◌, ◌^◌, ◌<◌, ◌≤◌, ◌==◌, Bool, true, false, List, [], ◌∷◌, ◌++◌, length, drop, map, refl, sym, ◌∙◌, ap, subst, arith, append_assoc, append-nil, length-drop, inl, inr}
use Rattle.std.proofs.Math.Nat.{pow-suc, pow-le-pow_right}
use Rattle.std.proofs.lemmas.Bool.{cases_eq, eq-eqb, ne_eqb}
use Rattle.bit_graph.specs.declared.edge.Edge.{Edge}
use Rattle.bit_graph.specs.Meaning.{edge_value}
use Rattle.bit_arith.specs.Number.{bit, number, number_of, values_of}
use Rattle.bit_arith.proofs.Numbers.{number-lt}
use Rattle.bit_values.specs.Bits.{bits_of}

-- a number by its lowest bit and its half
pub bit_of : (n : ℕ) → bit (n % 2 == 1) + 2 * (n / 2) ≡ n
bit_of n =
    elim (cases_eq (n % 2) 1) [
      | inl e ↦ let f : bit (n % 2 == 1) ≡ 1 = ap bit (eq-eqb (n % 2) 1 e) in omega arith
      | inr o ↦ let f : bit (n % 2 == 1) ≡ 0 = ap bit (ne_eqb (n % 2) 1 o) in let g : n % 2 ≡ 0 = omega arith in omega arith
    ]

pub length-bits_of : (w n : ℕ) → length (bits_of w n) ≡ w
length-bits_of zero n = refl
length-bits_of (suc w) n = ap suc (length-bits_of w (n / 2))

pub number-bits_of : (w n : ℕ) → n < 2 ^ w → number (λ b. b) (bits_of w n) ≡ n
number-bits_of zero n h = omega arith
number-bits_of (suc w) n h =
    let double : 2 ^ suc w ≡ 2 ^ w * 2 = pow-suc 2 w in
    let rest : number (λ b. b) (bits_of w (n / 2)) ≡ n / 2 = number-bits_of w (n / 2) (omega arith) in
    ap (λ m. bit (n % 2 == 1) + 2 * m) rest ∙ bit_of n

low_of : (b : Bool) (m : ℕ) → ((bit b + 2 * m) % 2 == 1) ≡ b
low_of true m = eq-eqb ((1 + 2 * m) % 2) 1 (omega arith)
low_of false m = ne_eqb ((0 + 2 * m) % 2) 1 (λ e. omega arith)

half_of : (b : Bool) (m : ℕ) → (bit b + 2 * m) / 2 ≡ m
half_of true m = omega arith
half_of false m = omega arith

pub bits_of-number : (bits : List Bool) → bits_of (length bits) (number (λ b. b) bits) ≡ bits
bits_of-number [] = refl
bits_of-number (b ∷ bits) =
    let m = number (λ c. c) bits in
    (λ i. low_of b m i ∷ bits_of (length bits) (half_of b m i)) ∙ ap (λ (l : List Bool). b ∷ l) (bits_of-number bits)

bits_at : (w n k : ℕ) → w ≡ suc k → bits_of w n ≡ (n % 2 == 1) ∷ bits_of k (n / 2)
bits_at w n k e = ap (λ m. bits_of m n) e

-- one bit more
pub bits_next : (whole xs : List Bool) (w i n : ℕ) → i < w → whole ≡ xs ++ bits_of (w - i) n → whole ≡ (xs ++ (n % 2 == 1) ∷ []) ++ bits_of (w - (i + 1)) (n / 2)
bits_next whole xs w i n l e =
    e ∙ ap (λ (ys : List Bool). xs ++ ys) (bits_at (w - i) n (w - (i + 1)) (omega arith))
    ∙ sym (append_assoc xs ((n % 2 == 1) ∷ []) (bits_of (w - (i + 1)) (n / 2)))

pub bits_done : (whole xs : List Bool) (w i n : ℕ) → w ≤ i → whole ≡ xs ++ bits_of (w - i) n → whole ≡ xs
bits_done whole xs w i n l e =
    let none : w - i ≡ 0 = omega arith in
    e ∙ ap (λ m. xs ++ bits_of m n) none ∙ append-nil xs

-- the bits from the second on are a number of 127 bits
pub high_fits : (bits : List Bool) (i : ℕ) → 1 ≤ i → length bits ≤ 128 → number (λ b. b) (drop i bits) < 2 ^ 127
high_fits bits i h l =
    let d : length (drop i bits) ≤ 127 = simp length-drop (omega arith) in
    let a = number-lt (λ (b : Bool). b) (drop i bits) in
    let m : 2 ^ length (drop i bits) ≤ 2 ^ 127 = pow-le-pow_right (omega arith) d in
    omega arith

pub number-values : (v : ℕ → Bool) (es : List Edge) → number (λ b. b) (values_of v es) ≡ number_of v es
number-values v [] = refl
number-values v (e ∷ es) = ap (λ m. bit (edge_value v e) + 2 * m) (number-values v es)

pub number-constant : (v : ℕ → Bool) (es : List Edge) (w n : ℕ) → n < 2 ^ w → values_of v es ≡ bits_of w n → number_of v es ≡ n
number-constant v es w n l e = sym (number-values v es) ∙ ap (number (λ b. b)) e ∙ number-bits_of w n l
