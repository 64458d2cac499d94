-- Shifts, as lists and as numbers.
use Rattle.std.proofs.Common.{◌≡◌, ℕ, ◌+◌, ◌-◌, ◌*◌, ◌^◌, ◌<◌, ◌≤◌, ◌/◌, ◌%◌, ◌⊎◌, Bool, true, false, cond, List, [], ◌∷◌, ◌++◌, length, take, drop, map, replicate, sym, ◌∙◌, ap, arith, suc, zero, inl, inr}
use Rattle.std.proofs.Math.Nat.{pow-suc, mod-add-mod, mod-lt, div-div-eq-div-mul, add-mul-div_left, mul-le-mul_left, mod-eq_of_lt, div-one}
use Rattle.std.proofs.lemmas.Nat.{pow-add, pow_pos, div-mul-add, mod-mul-add, div-add-mod', mul-mod_second}
use Rattle.std.proofs.lemmas.Bool.{cases_lt}
use Rattle.std.proofs.lemmas.List.{length-replicate, length-drop}
use Rattle.bit_arith.specs.Number.{bit, number}
use Rattle.bit_arith.specs.Words.{repeated, shifted}
use Rattle.bit_arith.proofs.Numbers.{number-take_lt}
use Rattle.bit_arith.proofs.Horner.{number-split, number-take_mod}

repeated-suc : (f : Bool) (k : ℕ) → bit f + 2 * repeated f k ≡ repeated f (suc k)
repeated-suc true k = rw (pow-suc 2 k) (omega (arith, pow_pos k))
repeated-suc false k = omega arith

pub number-replicate : {A : Type 0} (f : A → Bool) (x : A) (k : ℕ) → number f (replicate k x) ≡ repeated (f x) k
number-replicate f x zero = omega arith
number-replicate f x (suc k) = ap (λ n. bit (f x) + 2 * n) (number-replicate f x k) ∙ repeated-suc (f x) k

pub number-constant : {A : Type 0} (f : A → Bool) (x : A) (a : List A) → number f (map (λ _. x) a) ≡ repeated (f x) (length a)
number-constant f x [] = omega arith
number-constant f x (y ∷ ys) = ap (λ n. bit (f x) + 2 * n) (number-constant f x ys) ∙ repeated-suc (f x) (length ys)

number-append : {A : Type 0} (f : A → Bool) (xs ys : List A) → number f (xs ++ ys) ≡ number f xs + 2 ^ length xs * number f ys
number-append f [] ys = omega arith
number-append f (x ∷ xs) ys = rw (number-append f xs ys, pow-suc 2 (length xs)) (omega arith)

repeated-lt : (f : Bool) (k : ℕ) → repeated f k < 2 ^ k
repeated-lt true k = omega (arith, pow_pos k)
repeated-lt false k = omega (arith, pow_pos k)

both_full : (p q : ℕ) → 0 < p → 0 < q → q * (1 * (p - 1)) + 1 * (q - 1) ≡ 1 * (p * q - 1)
both_full zero q h l = absurd (omega arith)
both_full (suc p) zero h l = absurd (omega arith)
both_full (suc p) (suc q) h l =
    let in_p : suc p - 1 ≡ p = omega arith in
    let in_q : suc q - 1 ≡ q = omega arith in
    let whole : suc p * suc q - 1 ≡ p * suc q + q = omega arith in
    let e : suc q * (1 * p) + 1 * q ≡ 1 * (p * suc q + q) = omega arith in
    (λ i. suc q * (1 * in_p i) + 1 * in_q i) ∙ e ∙ sym (ap (λ m. 1 * m) whole)

-- k bits f, and s more above them
repeated-add : (f : Bool) (s k : ℕ) → 2 ^ k * repeated f s + repeated f k ≡ repeated f (s + k)
repeated-add true s k = rw (pow-add 2 s k) (both_full (2 ^ s) (2 ^ k) (pow_pos s) (pow_pos k))
repeated-add false s k = omega arith

-- the low bits of a number that is moved up
moved_up : (p q m o : ℕ) → 0 < q → o < p → o + p * (m % q) ≡ (p * m + o) % (p * q)
moved_up p q m o pos low =
    let d = m / q in
    let r = m % q in
    let whole : d * q + r ≡ m = div-add-mod' m q in
    let less : r < q = mod-lt m pos in
    let room : p * suc r ≤ p * q = mul-le-mul_left p less in
    let small : o + p * r < p * q = omega (arith, room, low) in
    let e : d * (p * q) + (o + p * r) ≡ p * m + o = (let f : d * (p * q) + (o + p * r) ≡ p * (d * q + r) + o = omega arith in f ∙ ap (λ n. p * n + o) whole) in
    sym (ap (λ n. n % (p * q)) (sym e) ∙ mod-mul-add d (p * q) (o + p * r) small)

module _ {A : Type 0} (f : A → Bool) (x : A) (k : ℕ) (a : List A) (le : k ≤ length a) where
  width : 2 ^ k * 2 ^ (length a - k) ≡ 2 ^ length a
  width = let e : k + (length a - k) ≡ length a = omega arith in sym (pow-add 2 k (length a - k)) ∙ ap (λ n. 2 ^ n) e

  pub number-left : number f (replicate k x ++ take (length a - k) a) ≡ shifted true (length a) k (f x) (number f a)
  number-left =
      number-append f (replicate k x) (take (length a - k) a)
      ∙ (λ i. number-replicate f x k i + 2 ^ length-replicate k x i * number-take_mod f (length a - k) a (omega arith) i)
      ∙ moved_up (2 ^ k) (2 ^ (length a - k)) (number f a) (repeated (f x) k) (pow_pos (length a - k)) (repeated-lt (f x) k)
      ∙ ap (λ n. (2 ^ k * number f a + repeated (f x) k) % n) width

  pub number-right : number f (drop k a ++ replicate k x) ≡ shifted false (length a) k (f x) (number f a)
  number-right =
      let p = 2 ^ k in
      let q = 2 ^ (length a - k) in
      let o = repeated (f x) k in
      let d = number f (drop k a) in
      let t = number f (take k a) in
      let e : (d + q * o) * p + t ≡ (t + p * d) + (p * q) * o = omega arith in
      let low : t < p = number-take_lt f a k le in
      let whole : (d + q * o) * p + t ≡ number f a + 2 ^ length a * o = e ∙ (λ i. sym (number-split f k a le) i + width i * o) in
      number-append f (drop k a) (replicate k x)
      ∙ (λ i. d + 2 ^ length-drop k a i * number-replicate f x k i)
      ∙ sym (ap (λ n. n / p) (sym whole) ∙ div-mul-add (d + q * o) p t low)

-- a shift by the whole width or more brings in f alone
far_left_true : (p r m : ℕ) → 0 < p → 0 < r → (p * r * m + 1 * (p * r - 1)) % p ≡ 1 * (p - 1)
far_left_true zero r m h l = absurd (omega arith)
far_left_true (suc p) zero m h l = absurd (omega arith)
far_left_true (suc p) (suc r) m h l =
    let e : suc p * suc r * m + 1 * (suc p * suc r - 1) ≡ (suc r * m + r) * suc p + p = omega arith in
    let less : p < suc p = omega arith in
    let out : p ≡ 1 * (suc p - 1) = omega arith in
    ap (λ n. n % suc p) e ∙ mod-mul-add (suc r * m + r) (suc p) p less ∙ out

far_left_false : (p r m : ℕ) → 0 < p → (p * r * m + 0 * (p * r - 1)) % p ≡ 0 * (p - 1)
far_left_false p r m h =
    let e : p * r * m + 0 * (p * r - 1) ≡ (r * m) * p + 0 = omega arith in
    ap (λ n. n % p) e ∙ mod-mul-add (r * m) p 0 h ∙ omega arith

far_right_true : (p k m : ℕ) → m < p → p ≤ k → (m + p * (1 * (k - 1))) / k ≡ 1 * (p - 1)
far_right_true zero k m h l = absurd (omega arith)
far_right_true (suc p) zero m h l = absurd (omega arith)
far_right_true (suc p) (suc k) m h l =
    let in_k : suc k - 1 ≡ k = omega arith in
    let e : m + suc p * (1 * k) ≡ p * suc k + (m + k - p) = omega arith in
    let out : p ≡ 1 * (suc p - 1) = omega arith in
    let less : m + k - p < suc k = omega arith in
    ap (λ n. n / suc k) (ap (λ j. m + suc p * (1 * j)) in_k ∙ e) ∙ div-mul-add p (suc k) (m + k - p) less ∙ out

far_right_false : (p k m : ℕ) → m < p → p ≤ k → (m + p * (0 * (k - 1))) / k ≡ 0 * (p - 1)
far_right_false p k m h l =
    let e : m + p * (0 * (k - 1)) ≡ 0 * k + m = omega arith in
    ap (λ n. n / k) e ∙ div-mul-add 0 k m (omega arith) ∙ omega arith

pow_apart : (n k : ℕ) → n ≤ k → 2 ^ k ≡ 2 ^ n * 2 ^ (k - n)
pow_apart n k l = let e : k ≡ n + (k - n) = omega arith in ap (λ m. 2 ^ m) e ∙ pow-add 2 n (k - n)

pow_le : (n k : ℕ) → n ≤ k → 2 ^ n ≤ 2 ^ k
pow_le n k l =
    let some : 1 ≤ 2 ^ (k - n) = pow_pos (k - n) in
    let room : 2 ^ n * 1 ≤ 2 ^ n * 2 ^ (k - n) = mul-le-mul_left (2 ^ n) some in
    omega (arith, room, pow_apart n k l)

pub shifted_far : (left f : Bool) (n k m : ℕ) → n ≤ k → m < 2 ^ n → shifted left n k f m ≡ repeated f n
shifted_far true true n k m l h =
    ap (λ p. (p * m + 1 * (p - 1)) % 2 ^ n) (pow_apart n k l) ∙ far_left_true (2 ^ n) (2 ^ (k - n)) m (pow_pos n) (pow_pos (k - n))
shifted_far true false n k m l h =
    ap (λ p. (p * m + 0 * (p - 1)) % 2 ^ n) (pow_apart n k l) ∙ far_left_false (2 ^ n) (2 ^ (k - n)) m (pow_pos n)
shifted_far false true n k m l h = far_right_true (2 ^ n) (2 ^ k) m h (pow_le n k l)
shifted_far false false n k m l h = far_right_false (2 ^ n) (2 ^ k) m h (pow_le n k l)

-- one shift after another
pub shifted_twice : (left f : Bool) (n s k m : ℕ) → shifted left n k f (shifted left n s f m) ≡ shifted left n (s + k) f m
shifted_twice true f n s k m =
    let p = 2 ^ n in
    let x = 2 ^ s * m + repeated f s in
    let out : 2 ^ k * x + repeated f k ≡ 2 ^ (s + k) * m + repeated f (s + k) =
    (let e : 2 ^ k * x + repeated f k ≡ 2 ^ s * 2 ^ k * m + (2 ^ k * repeated f s + repeated f k) = omega arith in
    e ∙ (λ i. sym (pow-add 2 s k) i * m + repeated-add f s k i)) in
    sym (mod-add-mod (2 ^ k * (x % p)) p (repeated f k))
    ∙ ap (λ y. (y + repeated f k) % p) (mul-mod_second (2 ^ k) x p)
    ∙ mod-add-mod (2 ^ k * x) p (repeated f k)
    ∙ ap (λ y. y % p) out
shifted_twice false f n s k m =
    let p = 2 ^ n in
    let x = m + p * repeated f s in
    let back : k + s ≡ s + k = omega arith in
    let out : x + 2 ^ s * (p * repeated f k) ≡ m + p * repeated f (s + k) =
    (let e : x + 2 ^ s * (p * repeated f k) ≡ m + p * (2 ^ s * repeated f k + repeated f s) = omega arith in
    e ∙ ap (λ y. m + p * y) (repeated-add f k s ∙ ap (repeated f) back)) in
    ap (λ y. y / 2 ^ k) (sym (add-mul-div_left x (p * repeated f k) (pow_pos s)))
    ∙ div-div-eq-div-mul (x + 2 ^ s * (p * repeated f k)) (2 ^ s) (2 ^ k)
    ∙ (λ i. out i / sym (pow-add 2 s k) i)

pub shifted_none : (left f : Bool) (n m : ℕ) → m < 2 ^ n → shifted left n 0 f m ≡ m
shifted_none true f n m h =
    let e : 1 * m + bit f * 0 ≡ m = omega arith in
    ap (λ y. y % 2 ^ n) e ∙ mod-eq_of_lt h
shifted_none false f n m h =
    let e : m + 2 ^ n * (bit f * 0) ≡ m = omega arith in
    ap (λ y. y / 1) e ∙ div-one m

-- the step is the place's power, or as good as that
abbrev pub IsStep : ℕ → ℕ → ℕ → Type 0
IsStep n step p = (step ≡ p) ⊎ ((n ≤ step) × (step ≤ p))

-- one stage of a shift: by the step where the bit is set
pub stage : (left f b : Bool) (n s step p x y z : ℕ) → IsStep n step p → x < 2 ^ n → y < 2 ^ n → y ≡ shifted left n s f x →
    z ≡ cond b (shifted left n step f y) y → z ≡ shifted left n (s + p * bit b) f x
stage left f true n s step p x y z (inl e) hx hy h c =
    let g : s + step ≡ s + p * 1 = omega arith in
    c ∙ ap (shifted left n step f) h ∙ shifted_twice left f n s step x ∙ ap (λ m. shifted left n m f x) g
stage left f true n s step p x y z (inr far) hx hy h c =
    c ∙ shifted_far left f n step y far.0 hy ∙ sym (shifted_far left f n (s + p * 1) x (omega (arith, far.0, far.1)) hx)
stage left f false n s step p x y z o hx hy h c =
    let g : s ≡ s + p * 0 = omega arith in
    c ∙ h ∙ ap (λ m. shifted left n m f x) g

pub next_step : (n step p q new : ℕ) → IsStep n step p → q ≡ 2 * p → (2 * step ≤ n → new ≡ 2 * step) → (n < 2 * step → n ≤ new) → new ≤ 2 * step → IsStep n new q
next_step n step p q new (inl e) f low high bound =
    elim (cases_lt n (2 * step)) [
      | inl l ↦ inr (high l, omega arith)
      | inr l ↦ inl (let g : new ≡ 2 * step = low l in omega arith)
    ]
next_step n step p q new (inr far) f low high bound =
    elim (cases_lt n (2 * step)) [
      | inl l ↦ inr (high l, omega (arith, far.1))
      | inr l ↦ inr (omega (arith, far.0), omega (arith, far.1))
    ]
