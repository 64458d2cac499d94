-- Shifts of words.
use Rattle.std.proofs.Common.{◌≡◌, ℕ, zero, suc, ◌+◌, ◌-◌, ◌*◌, ◌/◌, ◌%◌, ◌^◌, ◌<◌, ◌≤◌, Bool, true, false, ◌&&◌, ◌||◌, not, cond, List, length, take, min, ℤ, pos, negsuc, neg_ℤ, ◌*ℤ◌, inl, inr, refl, sym, ap, subst, ◌∙◌, arith, nat_lt, IsTrue}
use Rattle.std.specs.Prelude.{int_le, int_lt}
use Rattle.std.specs.Int.{int_shr}
use Rattle.std.proofs.Math.Nat.{div-le_self, mod-eq_of_lt, mod-lt}
use Rattle.std.proofs.lemmas.Bool.{cases_lt, lt-ltb}
use Rattle.std.proofs.lemmas.Int.{ints}
use Rattle.std.proofs.lemmas.Nat.{div-add-mod', div-mul-add, pow_pos}
use Rattle.smv_value.specs.declared.operator.Shift.{Shift}
use Rattle.smv_value.specs.declared.operator.Shift.TheVariants as shift
use Rattle.smv_value.specs.Results.{number_of_word, is_width, is_word, low_bits, moved, natural}
use Rattle.smv_value.proofs.Bits.{low_of_128, low_shifted}
use Rattle.value_types.proofs.Elements.{both_true}
use Rattle.bit_graph.specs.declared.edge.Edge.{Edge}
use Rattle.bit_graph.specs.Meaning.{edge_value}
use Rattle.bit_arith.specs.Number.{number_of}
use Rattle.bit_arith.specs.Words.{integer, is_negative, shifted}
use Rattle.bit_arith.proofs.Horner.{number-take_mod}
use Rattle.bit_arith.proofs.Numbers.{number-lt}
use Rattle.bit_values.specs.Bits.{least_bits}
use Rattle.bit_values.proofs.Widths.{least_width}
use Rattle.bit_operators.specs.Denoting.{integer_of}
use Rattle.bit_operators.specs.Resizing.{is_below_zero}
use Rattle.bit_numbers.specs.Shifts.{is_outside}

word_is : (w a : ℕ) → is_width w ≡ true → a < 2 ^ w → IsTrue (is_word w a)
word_is w a h l = both_true (is_width w) (nat_lt a (2 ^ w)) h (lt-ltb a (2 ^ w) l)

pub left_low : (s : Bool) (w k a : ℕ) → is_width w ≡ true → a < 2 ^ w → shifted true w k false a ≡ low_bits w (number_of_word s w a *ℤ pos (2 ^ k))
left_low s w k a h l =
    let e : 2 ^ k * a + 0 * (2 ^ k - 1) ≡ a * 2 ^ k = omega arith in
    ap (λ n. n % 2 ^ w) e ∙ sym (low_of_128 w (a * 2 ^ k) h) ∙ low_shifted s w a k (word_is w a h l)

right_whole : (w k a : ℕ) → a < 2 ^ w → (a + 2 ^ w * (0 * (2 ^ k - 1))) / 2 ^ k ≡ a / 2 ^ k % 2 ^ w
right_whole w k a l =
    let e : a + 2 ^ w * (0 * (2 ^ k - 1)) ≡ a = omega arith in
    let less : a / 2 ^ k < 2 ^ w = omega (arith, div-le_self a (2 ^ k)) in
    ap (λ n. n / 2 ^ k) e ∙ sym (mod-eq_of_lt less)

-- p times all bits but the lowest place of q
filled : (p q : ℕ) → 0 < q → p * (1 * (q - 1)) + p ≡ p * q
filled p zero l = absurd (omega arith)
filled p (suc q) l = let e : suc q - 1 ≡ q = omega arith in ap (λ x. p * (1 * x) + p) e ∙ omega arith

right_split : (p q a d e r u : ℕ) → 0 < q → a + suc d ≡ p → d ≡ e * q + r → r < q → p ≡ 1 + e + u → a + p * (1 * (q - 1)) ≡ u * q + (q - 1 - r)
right_split p q a d e r u some whole split low rest =
    let all : p * (1 * (q - 1)) + p ≡ p * q = filled p q some in
    let times : p * q ≡ (1 + e + u) * q = ap (λ n. n * q) rest in
    omega arith

right_negative : (w k d a : ℕ) → a + suc d ≡ 2 ^ w → (a + 2 ^ w * (1 * (2 ^ k - 1))) / 2 ^ k ≡ 2 ^ w - 1 - d / 2 ^ k % 2 ^ w
right_negative w k d a whole =
    let p = 2 ^ w in
    let q = 2 ^ k in
    let some : 0 < q = pow_pos k in
    let e = d / q in
    let low : d % q < q = mod-lt d some in
    let most : e ≤ d = div-le_self d q in
    let small : e < p = omega arith in
    let split : d ≡ e * q + d % q = (let h = div-add-mod' d q in omega (arith, h)) in
    let sum : a + p * (1 * (q - 1)) ≡ (p - 1 - e) * q + (q - 1 - d % q) = right_split p q a d e (d % q) (p - 1 - e) some whole split low (omega arith) in
    let rest : q - 1 - d % q < q = omega arith in
    ap (λ n. n / q) sum ∙ div-mul-add (p - 1 - e) q (q - 1 - d % q) rest ∙ ap (λ n. p - 1 - n) (sym (mod-eq_of_lt small))

right_at : (w k a : ℕ) (b : Bool) (c : ℕ) → a < 2 ^ w → a + c ≡ 2 ^ w → shifted false w k b a ≡ low_bits w (int_shr (cond b (neg_ℤ (pos c)) (pos a)) k)
right_at w k a false c l e = right_whole w k a l
right_at w k a true zero l e = absurd (omega arith)
right_at w k a true (suc d) l e = right_negative w k d a e

pub right_low : (s : Bool) (w k a : ℕ) → a < 2 ^ w → shifted false w k (is_below_zero s w a) a ≡ low_bits w (int_shr (number_of_word s w a) k)
right_low false w k a l = right_at w k a false (2 ^ w - a) l (omega arith)
right_low true w k a l = right_at w k a (is_negative w a) (2 ^ w - a) l (omega arith)

-- the number of an amount that is within the width

inside_at : (n m w : ℕ) (b : Bool) → m < 2 ^ n → is_outside w (cond b (neg_ℤ (pos (2 ^ n - m))) (pos m)) ≡ false → (natural (cond b (neg_ℤ (pos (2 ^ n - m))) (pos m)) ≡ m) × (m ≤ w)
inside_at n m w true l h =
    let low : int_lt (neg_ℤ (pos (2 ^ n - m))) (pos 0) ≡ true = grind (arith, ints) in
    absurd (let no : true ≡ false = sym (ap (λ b. b || int_lt (pos w) (neg_ℤ (pos (2 ^ n - m)))) low) ∙ h in cc)
inside_at n m w false l h = (refl, grind (arith, ints))

pub inside : (n m w : ℕ) → m < 2 ^ n → is_outside w (integer n m) ≡ false → (natural (integer n m) ≡ m) × (m ≤ w)
inside n m w l h = inside_at n m w (is_negative n m) l h

-- the low bits of an amount within the width are all of it
pub taken : (v : ℕ → Bool) (es : List Edge) (few w : ℕ) → few ≡ min (length es) (least_bits (w + 1)) → number_of v es ≤ w → number_of v (take few es) ≡ number_of v es
taken v es few w e l =
    let within : few ≤ length es = omega arith in
    let most : w + 1 ≤ 2 ^ least_bits (w + 1) = (least_width (w + 1)).fits in
    let small : number_of v es < 2 ^ few =
    elim (cases_lt (length es) (least_bits (w + 1))) [
      | inl short ↦ (let P : ℕ → Type 0 = λ n. number_of v es < 2 ^ n in subst P (let is : length es ≡ few = omega arith in is) (number-lt (edge_value v) es))
      | inr long ↦ (let P : ℕ → Type 0 = λ n. number_of v es < 2 ^ n in subst P (let is : least_bits (w + 1) ≡ few = omega arith in is) (omega arith))
    ] in
    number-take_mod (edge_value v) few es within ∙ mod-eq_of_lt small

pub outside_is : (w : ℕ) (z : ℤ) → not (int_le (pos 0) z && int_le z (pos w)) ≡ is_outside w z
outside_is w z = grind (arith, ints)

pub moved_left : (v : ℕ → Bool) (o : Shift) (s : Bool) (l m r : List Edge) (few : ℕ) (fill : Edge) → o ≡ shift.Left → few ≡ min (length m) (least_bits (length l + 1)) →
    edge_value v fill ≡ false → is_width (length l) ≡ true → is_outside (length l) (integer_of v m) ≡ false →
    number_of v r ≡ shifted true (length l) (number_of v (take few m)) (edge_value v fill) (number_of v l) →
    number_of v r ≡ low_bits (length l) (moved o (number_of_word s (length l) (number_of v l)) (natural (integer_of v m)))
moved_left v o s l m r few fill oe fe none w n h =
    let within_is = inside (length m) (number_of v m) (length l) (number-lt (edge_value v) m) n in
    let by : number_of v (take few m) ≡ natural (integer_of v m) = taken v m few (length l) fe within_is.1 ∙ sym within_is.0 in
    h ∙ (λ i. shifted true (length l) (by i) (none i) (number_of v l)) ∙ left_low s (length l) (natural (integer_of v m)) (number_of v l) w (number-lt (edge_value v) l)
    ∙ ap (λ q. low_bits (length l) (moved q (number_of_word s (length l) (number_of v l)) (natural (integer_of v m)))) (sym oe)

pub moved_right : (v : ℕ → Bool) (o : Shift) (s : Bool) (l m r : List Edge) (few : ℕ) (fill : Edge) → o ≡ shift.Right → few ≡ min (length m) (least_bits (length l + 1)) →
    edge_value v fill ≡ is_below_zero s (length l) (number_of v l) → is_outside (length l) (integer_of v m) ≡ false →
    number_of v r ≡ shifted false (length l) (number_of v (take few m)) (edge_value v fill) (number_of v l) →
    number_of v r ≡ low_bits (length l) (moved o (number_of_word s (length l) (number_of v l)) (natural (integer_of v m)))
moved_right v o s l m r few fill oe fe fi n h =
    let within_is = inside (length m) (number_of v m) (length l) (number-lt (edge_value v) m) n in
    let by : number_of v (take few m) ≡ natural (integer_of v m) = taken v m few (length l) fe within_is.1 ∙ sym within_is.0 in
    h ∙ (λ i. shifted false (length l) (by i) (fi i) (number_of v l)) ∙ right_low s (length l) (natural (integer_of v m)) (number_of v l) (number-lt (edge_value v) l)
    ∙ ap (λ q. low_bits (length l) (moved q (number_of_word s (length l) (number_of v l)) (natural (integer_of v m)))) (sym oe)
