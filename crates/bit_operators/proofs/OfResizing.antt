-- What a word counts, in more bits or fewer.
use Rattle.std.proofs.Common.{◌≡◌, ℕ, zero, suc, ◌+◌, ◌-◌, ◌*◌, ◌/◌, ◌%◌, ◌^◌, ◌<◌, ◌≤◌, Bool, true, false, cond, List, [], ◌∷◌, ◌++◌, length, length-append, take, replicate, ℤ, pos, neg_ℤ, ◌+ℤ◌, refl, sym, ap, subst, ◌∙◌, arith, nat_le}
use Rattle.std.proofs.Math.Nat.{mod-lt, pow-suc}
use Rattle.std.proofs.lemmas.List.{length-replicate}
use Rattle.std.proofs.lemmas.Int.{ints}
use Rattle.std.proofs.lemmas.Nat.{div-add-mod', pow-add, pow_pos}
use Rattle.smv_value.specs.Results.{number_of_word, low_bits}
use Rattle.smv_value.proofs.Bits.{Near, near}
use Rattle.bit_graph.specs.declared.edge.Edge.{Edge}
use Rattle.bit_graph.specs.Meaning.{edge_value}
use Rattle.bit_arith.specs.Number.{bit, number, number_of}
use Rattle.bit_arith.specs.Words.{is_negative, repeated}
use Rattle.bit_arith.proofs.Numbers.{number-lt}
use Rattle.bit_arith.proofs.Horner.{number-take_mod}
use Rattle.bit_arith.proofs.Moves.{number-replicate}
use Rattle.bit_operators.specs.Resizing.{is_below_zero}
use Rattle.bit_operators.proofs.Integers.{counted_near, low_bits_exact}

near_part : (p q m : ℕ) (z : ℤ) → 0 < p → Near (q * p) m z → Near p (m % p) z
near_part p q m z some (near k j e) =
    let left : k * (q * p) ≡ (k * q) * p = omega arith in
    let right : m + j * (q * p) ≡ m % p + (j * q + m / p) * p = (let d = div-add-mod' m p in omega (arith, d)) in
    near (k * q) (j * q + m / p) (ap (λ x. z +ℤ pos x) (sym left) ∙ e ∙ ap pos right)

-- fewer bits
pub low_part : (v : ℕ → Bool) (s : Bool) (es : List Edge) (w : ℕ) → w ≤ length es →
    number_of v (take w es) ≡ low_bits w (number_of_word s (length es) (number_of v es))
low_part v s es w l =
    let n = length es in
    let m = number_of v es in
    let split : 2 ^ n ≡ 2 ^ (n - w) * 2 ^ w = (let e : (n - w) + w ≡ n = omega arith in ap (λ x. 2 ^ x) (sym e) ∙ pow-add 2 (n - w) w) in
    let whole : Near (2 ^ (n - w) * 2 ^ w) m (number_of_word s n m) = subst (λ p. Near p m (number_of_word s n m)) split (counted_near s n m (number-lt (edge_value v) es)) in
    number-take_mod (edge_value v) w es l
    ∙ low_bits_exact w (m % 2 ^ w) (number_of_word s n m) (mod-lt m (pow_pos w)) (near_part (2 ^ w) (2 ^ (n - w)) m (number_of_word s n m) (pow_pos w) whole)

pub number-append : {A : Type 0} (f : A → Bool) (xs ys : List A) → number f (xs ++ ys) ≡ number f xs + 2 ^ length xs * number f ys
number-append f [] ys = omega arith
number-append f (x ∷ xs) ys = rw (number-append f xs ys, pow-suc 2 (length xs)) (omega arith)

filled : (p q : ℕ) → 0 < q → p * (1 * (q - 1)) + p ≡ p * q
filled p zero l = absurd (omega arith)
filled p (suc q) l = let e : suc q - 1 ≡ q = omega arith in ap (λ x. p * (1 * x) + p) e ∙ omega arith

turned_near : (p q r m : ℕ) → m < p → r + p ≡ q → Near q (m + r) (neg_ℤ (pos (p - m)))
turned_near p q r m l e = near 1 0 (omega (arith, ints))

wider_at : (n d m : ℕ) (b : Bool) → m < 2 ^ n → Near (2 ^ (n + d)) (m + 2 ^ n * repeated b d) (cond b (neg_ℤ (pos (2 ^ n - m))) (pos m))
wider_at n d m true l = turned_near (2 ^ n) (2 ^ (n + d)) (2 ^ n * repeated true d) m l (filled (2 ^ n) (2 ^ d) (pow_pos d) ∙ sym (pow-add 2 n d))
wider_at n d m false l = near 0 0 (omega (arith, ints))

wider_near : (s : Bool) (n d m : ℕ) → m < 2 ^ n → Near (2 ^ (n + d)) (m + 2 ^ n * repeated (is_below_zero s n m) d) (number_of_word s n m)
wider_near false n d m l = near 0 0 (omega (arith, ints))
wider_near true n d m l = wider_at n d m (is_negative n m) l

-- more bits
pub wider : (v : ℕ → Bool) (s : Bool) (es : List Edge) (e : Edge) (w : ℕ) → length es ≤ w → edge_value v e ≡ is_below_zero s (length es) (number_of v es) →
    number_of v (es ++ replicate (w - length es) e) ≡ low_bits w (number_of_word s (length es) (number_of v es))
wider v s es e w l f =
    let n = length es in
    let m = number_of v es in
    let whole = es ++ replicate (w - n) e in
    let up : n + (w - n) ≡ w = omega arith in
    let long : length whole ≡ w = simp (length-append, length-replicate) (omega arith) in
    let is : number_of v whole ≡ m + 2 ^ n * repeated (is_below_zero s n m) (w - n) =
    number-append (edge_value v) es (replicate (w - n) e)
    ∙ ap (λ x. m + 2 ^ n * x) (number-replicate (edge_value v) e (w - n) ∙ ap (λ b. repeated b (w - n)) f) in
    let small : number_of v whole < 2 ^ w = (let P : ℕ → Type 0 = λ x. number_of v whole < 2 ^ x in subst P long (number-lt (edge_value v) whole)) in
    let near_n : Near (2 ^ (n + (w - n))) (number_of v whole) (number_of_word s n m) =
    subst (λ x. Near (2 ^ (n + (w - n))) x (number_of_word s n m)) (sym is) (wider_near s n (w - n) m (number-lt (edge_value v) es)) in
    low_bits_exact w (number_of v whole) (number_of_word s n m) small (subst (λ x. Near (2 ^ x) (number_of v whole) (number_of_word s n m)) up near_n)
