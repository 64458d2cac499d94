-- The least width that counts so many codes.
use Rattle.std.proofs.Common.{◌≡◌, ℕ, zero, suc, ◌+◌, ◌*◌, ◌/◌, ◌%◌, ◌^◌, ◌<◌, ◌≤◌, Bool, true, false, List, length, refl, sym, ◌∙◌, ap, subst, arith, cond, inl, inr}
use Rattle.std.specs.Prelude.{nat_le, nat_lt, Option, None, Some, IsTrue, ◌↔◌}
use Rattle.std.proofs.Math.Nat.{pow-suc, pow-le-pow_right}
use Rattle.std.proofs.lemmas.Bool.{cases_lt, le-leb, lt-leb, lt-ltb}
use Rattle.value_types.specs.declared.value_type.ValueType.{ValueType}
use Rattle.value_types.specs.declared.value_type.ValueType.TheVariants as type
use Rattle.value_types.specs.Codes.{count, discrete_count}
use Rattle.bit_graph.specs.declared.edge.Edge.{Edge}
use Rattle.bit_arith.specs.Number.{number, number_of, values_of}
use Rattle.bit_arith.proofs.Numbers.{number-lt}
use Rattle.bit_values.proofs.Numbers.{number-values}
use Rattle.bit_values.specs.Bits.{IsLeastWidth, halvings, is_code, least_bits, width_of}

small_width : (m : ℕ) → m ≤ 1 → IsLeastWidth m 0
small_width m h = record { fits = omega arith; least = λ k l. omega arith }

below_power : (m n k : ℕ) → 2 ≤ m → ((j : ℕ) → m / 2 + m % 2 ≤ 2 ^ j → n ≤ j) → m ≤ 2 ^ k → suc n ≤ k
below_power m n zero two least l = absurd (omega arith)
below_power m n (suc k) two least l =
    let double : 2 ^ suc k ≡ 2 ^ k * 2 = pow-suc 2 k in
    let half : m / 2 + m % 2 ≤ 2 ^ k = omega arith in
    let below : n ≤ k = least k half in
    omega arith

next_width : (m n : ℕ) → 2 ≤ m → IsLeastWidth (m / 2 + m % 2) n → IsLeastWidth m (suc n)
next_width m n two half = record {
  fits = (let double : 2 ^ suc n ≡ 2 ^ n * 2 = pow-suc 2 n in let h = half.fits in omega arith);
  least = λ k l. below_power m n k two half.least l;
}

halvings_least : (d m : ℕ) → m ≤ d + 1 → IsLeastWidth m (halvings d m)
halvings_least zero m h = small_width m (omega arith)
halvings_least (suc d) m h =
    elim (cases_lt 1 m) [
      | inl more ↦
          let test : nat_le m 1 ≡ false = lt-leb m 1 more in
          subst (IsLeastWidth m) (sym (ap (λ b. cond b 0 (suc (halvings d (m / 2 + m % 2)))) test))
          (next_width m (halvings d (m / 2 + m % 2)) (omega arith) (halvings_least d (m / 2 + m % 2) (omega arith)))
      | inr few ↦
          let test : nat_le m 1 ≡ true = le-leb m 1 few in
          subst (IsLeastWidth m) (sym (ap (λ b. cond b 0 (suc (halvings d (m / 2 + m % 2)))) test)) (small_width m few)
    ]

pub least_width : (m : ℕ) → IsLeastWidth m (least_bits m)
unfolding least_bits
least_width m = halvings_least m m (omega arith)

pub one_least : (m a b : ℕ) → IsLeastWidth m a → IsLeastWidth m b → a ≡ b
one_least m a b h k =
    let l = h.least b k.fits in
    let n = k.least a h.fits in
    omega arith

pub least_bits-small : (m : ℕ) → m ≤ 1 → least_bits m ≡ 0
least_bits-small m h = one_least m (least_bits m) 0 (least_width m) (small_width m h)

pub least_bits-next : (m : ℕ) → 2 ≤ m → least_bits m ≡ suc (least_bits (m / 2 + m % 2))
least_bits-next m h = one_least m (least_bits m) (suc (least_bits (m / 2 + m % 2))) (least_width m) (next_width m (least_bits (m / 2 + m % 2)) h (least_width (m / 2 + m % 2)))

pub least_bits-le : (m k : ℕ) → m ≤ 2 ^ k → least_bits m ≤ k
least_bits-le m k h = (least_width m).least k h

-- the codes of a type fit its width
pub count_fits : (t : ValueType) → count t ≤ 2 ^ width_of t
count_fits type.Boolean = omega arith
count_fits (type.Word s w) = omega arith
count_fits (type.Range low high) = (least_width (count (type.Range low high))).fits
count_fits (type.Enumeration es) = (least_width (length es)).fits

-- of booleans and words each list of bits is a code
pub all_codes : (t : ValueType) (bits : List Bool) → discrete_count t ≡ None → length bits ≡ width_of t → is_code t bits ≡ true
all_codes type.Boolean bits e l = lt-ltb (number (λ b. b) bits) 2 (let P : ℕ → Type 0 = λ n. number (λ b. b) bits < 2 ^ n in subst P l (number-lt (λ (b : Bool). b) bits))
all_codes (type.Word s w) bits e l = lt-ltb (number (λ b. b) bits) (2 ^ w) (let P : ℕ → Type 0 = λ n. number (λ b. b) bits < 2 ^ n in subst P l (number-lt (λ (b : Bool). b) bits))
all_codes (type.Range low high) bits e l = absurd cc
all_codes (type.Enumeration es) bits e l = absurd cc

pub counted : (t : ValueType) (n : ℕ) → discrete_count t ≡ Some n → count t ≡ n
counted type.Boolean n e = absurd cc
counted (type.Word s w) n e = absurd cc
counted (type.Range low high) n e = cc
counted (type.Enumeration es) n e = cc

-- the test of a number of edges
pub code_edges : (t : ValueType) (v : ℕ → Bool) (es : List Edge) (n : ℕ) → discrete_count t ≡ Some n → is_code t (values_of v es) ≡ nat_lt (number_of v es) n
code_edges t v es n e = (λ i. nat_lt (number-values v es i) (counted t n e i))

pub not_reached : (b : Bool) (p q : ℕ) → (IsTrue b ↔ (p ≤ q)) → b ≡ false → q < p
not_reached b p q h e =
    elim (cases_lt q p) [
      | inl below ↦ below
      | inr above ↦ absurd (let f : b ≡ true = h.1 above in cc)
    ]

-- a power past 64 bits is past each number of 64 bits
pub too_wide : (w limit : ℕ) → 64 ≤ w → limit < 2 ^ 64 → 2 ^ w ≤ limit → ⊥
too_wide w limit h l m =
    let most : 2 ^ 64 ≤ 2 ^ w = pow-le-pow_right (omega arith) h in
    omega arith
