-- Integers that begin elsewhere than at 0.
use Rattle.std.proofs.Common.{◌≡◌, ℕ, zero, suc, ◌+◌, ◌-◌, ◌*◌, ◌/◌, ◌%◌, ◌^◌, ◌<◌, ◌≤◌, Bool, true, false, ◌&&◌, List, length, max, ℤ, pos, negsuc, ◌+ℤ◌, refl, sym, ap, subst, ◌∙◌, arith}
use Rattle.std.specs.Prelude.{int_le}
use Rattle.std.proofs.Math.Nat.{add-mod-mod, mod-add-mod, mod-lt}
use Rattle.std.proofs.lemmas.Int.{ints, to_z-of_z}
use Rattle.std.proofs.lemmas.Nat.{div-add-mod', pow_pos}
use mir.Syntax.{w32, w64}
use mir.Val.{SFits, of_z, to_z}
use Rattle.smv_value.specs.Results.{low_bits}
use Rattle.smv_value.proofs.Bits.{low_bits_is}
use Rattle.bit_graph.specs.declared.edge.Edge.{Edge}
use Rattle.bit_graph.specs.Meaning.{edge_value}
use Rattle.bit_arith.specs.Number.{number_of}
use Rattle.bit_arith.specs.Words.{integer}
use Rattle.bit_arith.proofs.Numbers.{number-lt}
use Rattle.bit_operators.specs.Denoting.{integer_of}
use Rattle.bit_operators.specs.Integers.{fits}
use Rattle.bit_operators.proofs.OfSums.{fits_more, low_integer}

whole : (p a q r c : ℕ) → r < p → a ≡ q * p + r → (negsuc a +ℤ pos c) +ℤ pos ((q + 1) * p) ≡ pos (p - 1 - r + c)
whole p a q r c l e = omega (arith, ints)

-- the low bits of a sum
low_bits_plus : (w : ℕ) (z : ℤ) (c : ℕ) → low_bits w (z +ℤ pos c) ≡ (low_bits w z + c % 2 ^ w) % 2 ^ w
low_bits_plus w (pos a) c = sym (mod-add-mod a (2 ^ w) (c % 2 ^ w) ∙ add-mod-mod a c (2 ^ w))
low_bits_plus w (negsuc a) c =
    let p = 2 ^ w in
    let d = div-add-mod' a p in
    let l : a % p < p = mod-lt a (pow_pos w) in
    low_bits_is w (a / p + 1) (p - 1 - a % p + c) (negsuc a +ℤ pos c) (whole p a (a / p) (a % p) c l (omega (arith, d)))
    ∙ sym (add-mod-mod (p - 1 - a % p) c p)

between_fits : (w : ℕ) (low high z : ℤ) → fits w low ≡ true → fits w high ≡ true → int_le low z ≡ true → int_le z high ≡ true → fits w z ≡ true
between_fits w low high z f g l h = grind (arith, ints)

from_low : (low : ℤ) (c : ℕ) → int_le low (low +ℤ pos c) ≡ true
from_low low c = grind (arith, ints)

-- the integer of the sum's edges
pub above_low : (v : ℕ → Bool) (bits start l m r : List Edge) (low high : ℤ) (n k w : ℕ) → fits n low ≡ true → fits k high ≡ true → w ≡ max n k → length l ≡ w → length r ≡ length l →
    integer_of v start ≡ low → number_of v l ≡ low_bits w (integer_of v start) → number_of v m ≡ number_of v bits % 2 ^ w → number_of v r ≡ (number_of v l + number_of v m) % 2 ^ length l →
    int_le (low +ℤ pos (number_of v bits)) high ≡ true → integer_of v r ≡ low +ℤ pos (number_of v bits)
above_low v bits start l m r low high n k w fl fh ew ll rl es el em er h =
    let z = low +ℤ pos (number_of v bits) in
    let wide_low : fits w low ≡ true = fits_more n w low (omega arith) fl in
    let wide_high : fits w high ≡ true = fits_more k w high (omega arith) fh in
    let wide : fits w z ≡ true = between_fits w low high z wide_low wide_high (from_low low (number_of v bits)) h in
    let long : length r ≡ w = rl ∙ ll in
    let small : number_of v r < 2 ^ w = (let P : ℕ → Type 0 = λ x. number_of v r < 2 ^ x in subst P long (number-lt (edge_value v) r)) in
    let is : number_of v r ≡ low_bits w z =
    er ∙ (λ i. ((el ∙ ap (low_bits w) es) i + em i) % 2 ^ (ll i)) ∙ sym (low_bits_plus w low (number_of v bits)) in
    ap (λ x. integer x (number_of v r)) long ∙ low_integer w (number_of v r) z small is wide

-- from 0 on there is nothing to add
pub at_zero : (low : ℤ) (n : ℕ) (z : ℤ) → low ≡ pos 0 → z ≡ pos n → z ≡ low +ℤ pos n
at_zero low n z e h = h ∙ (let f : pos n ≡ pos 0 +ℤ pos n = omega (arith, ints) in f) ∙ ap (λ x. x +ℤ pos n) (sym e)

-- an integer of 32 bits as one of 64
wide : (z : ℤ) → SFits w32 z → SFits w64 z
wide z f = record { sfits = (let h = f.sfits in omega arith) }

pub widened : (r z : ℤ) → SFits w32 z → r ≡ to_z w32 (of_z w32 z) → to_z w64 (of_z w64 r) ≡ z
widened r z f e = ap (λ y. to_z w64 (of_z w64 y)) (e ∙ to_z-of_z w32 z f) ∙ to_z-of_z w64 z (wide z f)
