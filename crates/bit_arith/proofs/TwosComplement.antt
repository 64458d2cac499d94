-- Words as integers in two's complement.
use Rattle.std.proofs.Common.{◌≡◌, ℕ, ◌+◌, ◌-◌, ◌*◌, ◌^◌, ◌<◌, ◌≤◌, ◌/◌, ◌%◌, Bool, true, false, cond, refl, sym, ◌∙◌, ap, arith, suc, zero, inl, inr, eqb, ltb}
use Rattle.std.specs.Prelude.{ℤ, pos, neg_ℤ, int_lt, int_div, int_rem}
use Rattle.std.proofs.Math.Nat.{mod-eq_of_lt, mod_self, zero-mod, div-le_self, mod-le, pow-suc}
use Rattle.std.proofs.lemmas.Bool.{le-leb, lt-leb, leb-true, eq-eqb, eqb-true, ne_eqb, lt-ltb, le-ltb, cases_lt, cases_Bool}
use Rattle.std.proofs.lemmas.Nat.{pow_pos}
use Rattle.bit_graph.specs.Meaning.{exclusive_or}
use Rattle.bit_arith.specs.Number.{bit}
use Rattle.bit_arith.specs.Words.{opposite, is_negative, integer, code, quotient, remainder, is_less}

-- an integer by its sign and its size
abbrev pub with_sign : Bool → ℤ → ℤ
with_sign true z = neg_ℤ z
with_sign false z = z

-- the size of the integer that a word stands for, as a circuit finds it
abbrev pub size : Bool → ℕ → ℕ → ℕ
size s n a = cond s (opposite n a) a

int_div-signs : (s t : Bool) (a b : ℕ) → (s ≡ true → 0 < a) → (t ≡ true → 0 < b) →
    int_div (with_sign s (pos a)) (with_sign t (pos b)) ≡ with_sign (exclusive_or s t) (pos (a / b))
int_div-signs false false a b h k = refl
int_div-signs false true a zero h k = absurd (let l : 0 < 0 = k refl in omega arith)
int_div-signs false true a (suc b) h k = refl
int_div-signs true false zero b h k = absurd (let l : 0 < 0 = h refl in omega arith)
int_div-signs true false (suc a) b h k = refl
int_div-signs true true zero b h k = absurd (let l : 0 < 0 = h refl in omega arith)
int_div-signs true true (suc a) zero h k = absurd (let l : 0 < 0 = k refl in omega arith)
int_div-signs true true (suc a) (suc b) h k = refl

int_rem-signs : (s t : Bool) (a b : ℕ) → (s ≡ true → 0 < a) → (t ≡ true → 0 < b) →
    int_rem (with_sign s (pos a)) (with_sign t (pos b)) ≡ with_sign s (pos (a % b))
int_rem-signs false false a b h k = refl
int_rem-signs false true a zero h k = absurd (let l : 0 < 0 = k refl in omega arith)
int_rem-signs false true a (suc b) h k = refl
int_rem-signs true false zero b h k = absurd (let l : 0 < 0 = h refl in omega arith)
int_rem-signs true false (suc a) b h k = refl
int_rem-signs true true zero b h k = absurd (let l : 0 < 0 = h refl in omega arith)
int_rem-signs true true (suc a) zero h k = absurd (let l : 0 < 0 = k refl in omega arith)
int_rem-signs true true (suc a) (suc b) h k = refl

code-signs : (n : ℕ) (s : Bool) (m : ℕ) → m < 2 ^ n → code n (with_sign s (pos m)) ≡ size s n m
code-signs n false m h = mod-eq_of_lt h
code-signs n true zero h = let e : 2 ^ n - 0 ≡ 2 ^ n = omega arith in zero-mod (2 ^ n) ∙ sym (ap (λ m. m % 2 ^ n) e ∙ mod_self (2 ^ n))
code-signs n true (suc m) h = ap (λ k. (2 ^ n - k) % 2 ^ n) (mod-eq_of_lt h)

-- what is known of the size of a word, s being whether it is negative
pub record IsSize (s : Bool) (n a m : ℕ) : Type 0 where
  pub integer_is : integer n a ≡ with_sign s (pos m)
  pub small : m < 2 ^ n
  pub some : s ≡ true → 0 < m
  pub back : size s n m ≡ a
  pub zero_is : eqb m 0 ≡ eqb a 0

size_at : (s : Bool) (n a : ℕ) → is_negative n a ≡ s → a < 2 ^ n → IsSize s n a (size s n a)
size_at true n a e h =
    let p = 2 ^ n in
    let high : p ≤ 2 * a = leb-true p (2 * a) e in
    let less : p - a < p = omega (arith, pow_pos n) in
    let is : opposite n a ≡ p - a = mod-eq_of_lt less in
    let a_some : 0 < a = omega (arith, pow_pos n) in
    let m_some : 0 < opposite n a = omega (arith, is) in
    record {
      integer_is = ap (λ b. cond b (neg_ℤ (pos (p - a))) (pos a)) e ∙ ap (λ k. neg_ℤ (pos k)) (sym is);
      small = omega (arith, is);
      some = λ _. m_some;
      back = (let f : p - (p - a) ≡ a = omega arith in ap (λ k. (p - k) % p) is ∙ ap (λ k. k % p) f ∙ mod-eq_of_lt h);
      zero_is = ne_eqb (opposite n a) 0 (λ z. omega arith) ∙ sym (ne_eqb a 0 (λ z. omega arith));
    }
size_at false n a e h = record {
  integer_is = ap (λ b. cond b (neg_ℤ (pos (2 ^ n - a))) (pos a)) e;
  small = h;
  some = λ z. (let no : false ≡ true = z in cc);
  back = refl;
  zero_is = refl;
}

pub size_of : (s : Bool) (n a : ℕ) → s ≡ is_negative n a → a < 2 ^ n → IsSize s n a (size s n a)
size_of s n a e h = size_at s n a (sym e) h

size_full : (n : ℕ) (s : Bool) (a : ℕ) → is_negative n a ≡ s → a < 2 ^ n → size (exclusive_or s false) n (2 ^ n - 1) ≡ cond (is_negative n a) 1 (2 ^ n - 1)
size_full n true a e h =
    let high : 2 ^ n ≤ 2 * a = leb-true (2 ^ n) (2 * a) e in
    let one : 2 ^ n - (2 ^ n - 1) ≡ 1 = omega (arith, pow_pos n) in
    let two : 1 < 2 ^ n = omega arith in
    ap (λ k. k % 2 ^ n) one ∙ mod-eq_of_lt two ∙ sym (ap (λ b. cond b 1 (2 ^ n - 1)) e)
size_full n false a e h = sym (ap (λ b. cond b 1 (2 ^ n - 1)) e)

positive_zero : (t : Bool) (n b m : ℕ) → IsSize t n b m → b ≡ 0 → t ≡ false
positive_zero true n b m h z =
    let same : eqb m 0 ≡ true = h.zero_is ∙ eq-eqb b 0 z in
    let none : m ≡ 0 = eqb-true m 0 same in
    let some : 0 < m = h.some refl in
    absurd (omega arith)
positive_zero false n b m h z = refl

-- the signed quotient by the sizes' quotient
pub signed_quotient : (n : ℕ) (s t : Bool) (a b x y q r : ℕ) → s ≡ is_negative n a → a < 2 ^ n → IsSize s n a x → IsSize t n b y →
    q ≡ quotient false n x y → r ≡ size (exclusive_or s t) n q → r ≡ quotient true n a b
signed_quotient n s t a b x y q r si small hx hy qi ri =
    elim (cases_Bool (eqb b 0)) [
      | inl z ↦
          let t_is : t ≡ false = positive_zero t n b y hy (eqb-true b 0 z) in
          let y_is : eqb y 0 ≡ true = hy.zero_is ∙ z in
          let q_is : q ≡ 2 ^ n - 1 = qi ∙ ap (λ c. cond c (2 ^ n - 1) (x / y)) y_is in
          ri ∙ (λ i. size (exclusive_or s (t_is i)) n (q_is i)) ∙ size_full n s a (sym si) small
          ∙ sym (ap (λ c. cond c (cond (is_negative n a) 1 (2 ^ n - 1)) (code n (int_div (integer n a) (integer n b)))) z)
      | inr z ↦
          let y_is : eqb y 0 ≡ false = hy.zero_is ∙ z in
          let q_is : q ≡ x / y = qi ∙ ap (λ c. cond c (2 ^ n - 1) (x / y)) y_is in
          let less : x / y < 2 ^ n = omega (arith, div-le_self x y, hx.small) in
          ri ∙ ap (size (exclusive_or s t) n) q_is ∙ sym (code-signs n (exclusive_or s t) (x / y) less)
          ∙ ap (code n) (sym (int_div-signs s t x y hx.some hy.some) ∙ (λ i. int_div (sym hx.integer_is i) (sym hy.integer_is i)))
          ∙ sym (ap (λ c. cond c (cond (is_negative n a) 1 (2 ^ n - 1)) (code n (int_div (integer n a) (integer n b)))) z)
    ]

-- the signed remainder by the sizes' remainder
pub signed_remainder : (n : ℕ) (s t : Bool) (a b x y q r : ℕ) → IsSize s n a x → x ≡ size s n a → IsSize t n b y →
    q ≡ remainder false n x y → r ≡ size s n q → r ≡ remainder true n a b
signed_remainder n s t a b x y q r hx xi hy qi ri =
    elim (cases_Bool (eqb b 0)) [
      | inl z ↦
          let y_is : eqb y 0 ≡ true = hy.zero_is ∙ z in
          let q_is : q ≡ x = qi ∙ ap (λ c. cond c x (x % y)) y_is in
          ri ∙ ap (size s n) q_is ∙ hx.back
          ∙ sym (ap (λ c. cond c a (code n (int_rem (integer n a) (integer n b)))) z)
      | inr z ↦
          let y_is : eqb y 0 ≡ false = hy.zero_is ∙ z in
          let q_is : q ≡ x % y = qi ∙ ap (λ c. cond c x (x % y)) y_is in
          let less : x % y < 2 ^ n = omega (arith, mod-le x y, hx.small) in
          ri ∙ ap (size s n) q_is ∙ sym (code-signs n s (x % y) less)
          ∙ ap (code n) (sym (int_rem-signs s t x y hx.some hy.some) ∙ (λ i. int_rem (sym hx.integer_is i) (sym hy.integer_is i)))
          ∙ sym (ap (λ c. cond c a (code n (int_rem (integer n a) (integer n b)))) z)
    ]

-- the highest bit says whether a word is negative
pub is_negative-top : (k a : ℕ) (x : Bool) → a < 2 ^ k → is_negative (suc k) (a + 2 ^ k * bit x) ≡ x
is_negative-top k a true h = le-leb (2 ^ suc k) (2 * (a + 2 ^ k * 1)) (omega (arith, pow-suc 2 k))
is_negative-top k a false h = lt-leb (2 ^ suc k) (2 * (a + 2 ^ k * 0)) (omega (arith, pow-suc 2 k))

integer-top : (k a : ℕ) (x : Bool) → a < 2 ^ k → integer (suc k) (a + 2 ^ k * bit x) ≡ cond x (neg_ℤ (pos (2 ^ k - a))) (pos a)
integer-top k a true h =
    let e : 2 ^ suc k - (a + 2 ^ k * 1) ≡ 2 ^ k - a = omega (arith, pow-suc 2 k) in
    ap (λ b. cond b (neg_ℤ (pos (2 ^ suc k - (a + 2 ^ k * 1)))) (pos (a + 2 ^ k * 1))) (is_negative-top k a true h) ∙ ap (λ m. neg_ℤ (pos m)) e
integer-top k a false h =
    let e : a + 2 ^ k * 0 ≡ a = omega arith in
    ap (λ b. cond b (neg_ℤ (pos (2 ^ suc k - (a + 2 ^ k * 0)))) (pos (a + 2 ^ k * 0))) (is_negative-top k a false h) ∙ ap pos e

both_negative : (m n : ℕ) → 0 < m → 0 < n → int_lt (neg_ℤ (pos m)) (neg_ℤ (pos n)) ≡ ltb n m
both_negative zero n h l = absurd (omega arith)
both_negative (suc m) zero h l = absurd (omega arith)
both_negative (suc m) (suc n) h l =
    elim (cases_lt n m) [
      | inl e ↦ lt-ltb n m e ∙ sym (lt-ltb (suc n) (suc m) (omega arith))
      | inr e ↦ le-ltb n m e ∙ sym (le-ltb (suc n) (suc m) (omega arith))
    ]

first_negative : (m n : ℕ) → 0 < m → int_lt (neg_ℤ (pos m)) (pos n) ≡ true
first_negative zero n h = absurd (omega arith)
first_negative (suc m) n h = refl

second_negative : (m n : ℕ) → 0 < n → int_lt (pos m) (neg_ℤ (pos n)) ≡ false
second_negative m zero h = absurd (omega arith)
second_negative m (suc n) h = refl

missing_less : (p a b : ℕ) → a < p → b < p → ltb (p - b) (p - a) ≡ ltb a b
missing_less p a b h l =
    elim (cases_lt a b) [
      | inl e ↦ lt-ltb (p - b) (p - a) (omega arith) ∙ sym (lt-ltb a b e)
      | inr e ↦ le-ltb (p - b) (p - a) (omega arith) ∙ sym (le-ltb a b e)
    ]

sign_less : (p a b : ℕ) (x y : Bool) → a < p → b < p →
    int_lt (cond x (neg_ℤ (pos (p - a))) (pos a)) (cond y (neg_ℤ (pos (p - b))) (pos b)) ≡ cond (eqb (bit y) (bit x)) (ltb a b) x
sign_less p a b true true h l = both_negative (p - a) (p - b) (omega arith) (omega arith) ∙ missing_less p a b h l
sign_less p a b true false h l = first_negative (p - a) b (omega arith)
sign_less p a b false true h l = second_negative a (p - b) (omega arith)
sign_less p a b false false h l = refl

-- of signed words, one with the highest bit set is less than one without; else the lower bits decide
pub signed_less : (k a b : ℕ) (x y : Bool) → a < 2 ^ k → b < 2 ^ k →
    is_less true (suc k) (a + 2 ^ k * bit x) (b + 2 ^ k * bit y) ≡ cond (eqb (bit y) (bit x)) (ltb a b) x
signed_less k a b x y h l = (λ i. int_lt (integer-top k a x h i) (integer-top k b y l i)) ∙ sign_less (2 ^ k) a b x y h l

pub same_eq : (x y : Bool) → eqb (bit y) (bit x) ≡ eqb (bit x) (bit y)
same_eq true true = refl
same_eq true false = refl
same_eq false true = refl
same_eq false false = refl

-- words of no bits
pub none_less : (n a b : ℕ) → n ≡ 0 → a < 2 ^ n → b < 2 ^ n → ltb a b ≡ is_less true n a b
none_less n a b z h l =
    let one : 2 ^ n ≡ 1 = ap (λ m. 2 ^ m) z in
    let in_a : a ≡ 0 = omega arith in
    let in_b : b ≡ 0 = omega arith in
    (λ i. ltb (in_a i) (in_b i)) ∙ (λ i. is_less true (sym z i) (sym in_a i) (sym in_b i))
