-- What lies between ends: sums, products, quotients and remainders.
use Rattle.std.proofs.Common.{◌≡◌, ◌⊎◌, inl, inr, ℕ, zero, suc, ◌-◌, ◌<◌, ◌≤◌, max, ℤ, pos, negsuc, ◌+ℤ◌, ◌-ℤ◌, ◌*ℤ◌, neg_ℤ, ◌≤ℤ◌, unsigned_abs, true, ◌&&◌, arith, refl, ap, ◌∙◌}
use Rattle.std.specs.Prelude.{int_le, int_div, int_rem}
use Rattle.std.specs.Int.{int_min, int_max}
use Rattle.std.proofs.lemmas.Bool.{and_parts, and_from}
use Rattle.std.proofs.lemmas.Int.{ints, clamps, rem_below}
use Rattle.std.proofs.Math.IntN.{*ℤ_comm, *ℤ-zero, suc_ℤ-*ℤ}
use Rattle.std.proofs.Math.Nat.{div-le_self}

abbrev pub Between : ℤ → ℤ → ℤ → Type 0
Between l h a = (l ≤ℤ a) × (a ≤ℤ h)

le_from : (a b : ℤ) → int_le a b ≡ true → a ≤ℤ b
le_from a b e = grind (arith, ints)

le_test : (a b : ℤ) → a ≤ℤ b → int_le a b ≡ true
le_test a b h = grind (arith, ints)

pub between_from : (l h z : ℤ) → (int_le l z && int_le z h) ≡ true → Between l h z
between_from l h z e = let p = and_parts (int_le l z) (int_le z h) e in (le_from l z p.0, le_from z h p.1)

pub between_test : (l h z : ℤ) → Between l h z → (int_le l z && int_le z h) ≡ true
between_test l h z b = and_from (int_le l z) (int_le z h) (le_test l z b.0) (le_test z h b.1)

-- what is between ends that are within others is within these
pub within : (n m l h z : ℤ) → Between n m l → Between n m h → Between l h z → Between n m z
within n m l h z x y b =
    let p = x.0 in let q = y.1 in let r = b.0 in let s = b.1 in
    (omega (arith, ints, p, r), omega (arith, ints, q, s))

-- the ends of four corners

abbrev pub least : ℤ → ℤ → ℤ → ℤ → ℤ
least a b c d = int_min (int_min a b) (int_min c d)

abbrev pub greatest : ℤ → ℤ → ℤ → ℤ → ℤ
greatest a b c d = int_max (int_max a b) (int_max c d)

min_left : (a b t : ℤ) → a ≤ℤ t → int_min a b ≤ℤ t
min_left a b t h = omega (arith, ints, clamps, h)

min_right : (a b t : ℤ) → b ≤ℤ t → int_min a b ≤ℤ t
min_right a b t h = omega (arith, ints, clamps, h)

max_left : (a b t : ℤ) → t ≤ℤ a → t ≤ℤ int_max a b
max_left a b t h = omega (arith, ints, clamps, h)

max_right : (a b t : ℤ) → t ≤ℤ b → t ≤ℤ int_max a b
max_right a b t h = omega (arith, ints, clamps, h)

-- what is between the first and the last corner
first_to_last : (p q r s t : ℤ) → p ≤ℤ t → t ≤ℤ s → Between (least p q r s) (greatest p q r s) t
first_to_last p q r s t h l =
    (min_left (int_min p q) (int_min r s) t (min_left p q t h), max_right (int_max p q) (int_max r s) t (max_right r s t l))

-- what is between the second and the third
second_to_third : (p q r s t : ℤ) → q ≤ℤ t → t ≤ℤ r → Between (least p q r s) (greatest p q r s) t
second_to_third p q r s t h l =
    (min_left (int_min p q) (int_min r s) t (min_right p q t h), max_right (int_max p q) (int_max r s) t (max_left r s t l))

pub added : (l h m k a b : ℤ) → Between l h a → Between m k b →
    Between (least (l +ℤ m) (l +ℤ k) (h +ℤ m) (h +ℤ k)) (greatest (l +ℤ m) (l +ℤ k) (h +ℤ m) (h +ℤ k)) (a +ℤ b)
added l h m k a b x y =
    let p = x.0 in let q = x.1 in let r = y.0 in let s = y.1 in
    first_to_last (l +ℤ m) (l +ℤ k) (h +ℤ m) (h +ℤ k) (a +ℤ b) (omega (arith, ints, p, r)) (omega (arith, ints, q, s))

pub subtracted : (l h m k a b : ℤ) → Between l h a → Between m k b →
    Between (least (l -ℤ m) (l -ℤ k) (h -ℤ m) (h -ℤ k)) (greatest (l -ℤ m) (l -ℤ k) (h -ℤ m) (h -ℤ k)) (a -ℤ b)
subtracted l h m k a b x y =
    let p = x.0 in let q = x.1 in let r = y.0 in let s = y.1 in
    second_to_third (l -ℤ m) (l -ℤ k) (h -ℤ m) (h -ℤ k) (a -ℤ b) (omega (arith, ints, p, s)) (omega (arith, ints, q, r))

max_grows : (a b c d : ℤ) → a ≤ℤ c → b ≤ℤ d → int_max a b ≤ℤ int_max c d
max_grows a b c d h l = omega (arith, ints, clamps, h, l)

min_grows : (a b c d : ℤ) → a ≤ℤ c → b ≤ℤ d → int_min a b ≤ℤ int_min c d
min_grows a b c d h l = omega (arith, ints, clamps, h, l)

pub greater : (l h m k a b : ℤ) → Between l h a → Between m k b →
    Between (least (int_max l m) (int_max l k) (int_max h m) (int_max h k)) (greatest (int_max l m) (int_max l k) (int_max h m) (int_max h k)) (int_max a b)
greater l h m k a b x y =
    first_to_last (int_max l m) (int_max l k) (int_max h m) (int_max h k) (int_max a b) (max_grows l m a b x.0 y.0) (max_grows a b h k x.1 y.1)

pub lesser : (l h m k a b : ℤ) → Between l h a → Between m k b →
    Between (least (int_min l m) (int_min l k) (int_min h m) (int_min h k)) (greatest (int_min l m) (int_min l k) (int_min h m) (int_min h k)) (int_min a b)
lesser l h m k a b x y =
    first_to_last (int_min l m) (int_min l k) (int_min h m) (int_min h k) (int_min a b) (min_grows l m a b x.0 y.0) (min_grows a b h k x.1 y.1)

pub turned : (l h a : ℤ) → Between l h a → Between (neg_ℤ h) (neg_ℤ l) (neg_ℤ a)
turned l h a x = let p = x.0 in let q = x.1 in (omega (arith, ints, q), omega (arith, ints, p))

-- products

right_suc : (x : ℤ) (n : ℕ) → x *ℤ pos (suc n) ≡ (x *ℤ pos n) +ℤ x
right_suc x n = *ℤ_comm x (pos (suc n)) ∙ suc_ℤ-*ℤ (pos n) x ∙ ap (λ z. z +ℤ x) (*ℤ_comm (pos n) x)

rises : (x y : ℤ) (n : ℕ) → x ≤ℤ y → (x *ℤ pos n) ≤ℤ (y *ℤ pos n)
rises x y zero le = let a = *ℤ-zero x in let b = *ℤ-zero y in omega (arith, ints, a, b)
rises x y (suc n) le =
    let h = rises x y n le in
    let a = right_suc x n in
    let b = right_suc y n in
    omega (arith, ints, a, b, h)

against : (x : ℤ) (n : ℕ) → (x *ℤ negsuc n) +ℤ (x *ℤ pos (suc n)) ≡ pos 0
against (pos m) n = omega (arith, ints)
against (negsuc m) n = omega (arith, ints)

-- between two products of one factor
turns : (l h a b : ℤ) → Between l h a → (Between (l *ℤ b) (h *ℤ b) (a *ℤ b)) ⊎ (Between (h *ℤ b) (l *ℤ b) (a *ℤ b))
turns l h a (pos n) x = inl (rises l a n x.0, rises a h n x.1)
turns l h a (negsuc n) x =
    let p = rises l a (suc n) x.0 in
    let q = rises a h (suc n) x.1 in
    let u = against l n in
    let v = against a n in
    let w = against h n in
    inr (omega (arith, ints, q, v, w), omega (arith, ints, p, u, v))

inside : (p q r : ℤ) → (Between p q r) ⊎ (Between q p r) → Between (int_min p q) (int_max p q) r
inside p q r (inl x) = let a = x.0 in let b = x.1 in (omega (arith, ints, clamps, a, b), omega (arith, ints, clamps, a, b))
inside p q r (inr x) = let a = x.0 in let b = x.1 in (omega (arith, ints, clamps, a, b), omega (arith, ints, clamps, a, b))

corners : (p q s t u v r : ℤ) → Between p q u → Between s t v → Between (int_min u v) (int_max u v) r → Between (int_min p s) (int_max q t) r
corners p q s t u v r x y z =
    let a = x.0 in let b = x.1 in let c = y.0 in let d = y.1 in let e = z.0 in let f = z.1 in
    (omega (arith, ints, clamps, a, c, e), omega (arith, ints, clamps, b, d, f))

along : (l m k b : ℤ) → Between m k b → Between (int_min (l *ℤ m) (l *ℤ k)) (int_max (l *ℤ m) (l *ℤ k)) (l *ℤ b)
along l m k b y = rw (*ℤ_comm l m, *ℤ_comm l k, *ℤ_comm l b) (inside (m *ℤ l) (k *ℤ l) (b *ℤ l) (turns m k b l y))

pub multiplied : (l h m k a b : ℤ) → Between l h a → Between m k b →
    Between (least (l *ℤ m) (l *ℤ k) (h *ℤ m) (h *ℤ k)) (greatest (l *ℤ m) (l *ℤ k) (h *ℤ m) (h *ℤ k)) (a *ℤ b)
multiplied l h m k a b x y =
    corners (int_min (l *ℤ m) (l *ℤ k)) (int_max (l *ℤ m) (l *ℤ k)) (int_min (h *ℤ m) (h *ℤ k)) (int_max (h *ℤ m) (h *ℤ k)) (l *ℤ b) (h *ℤ b) (a *ℤ b)
    (along l m k b y) (along h m k b y) (inside (l *ℤ b) (h *ℤ b) (a *ℤ b) (turns l h a b x))

-- absolute values

pub size_within : (l h a : ℤ) → Between l h a → unsigned_abs a ≤ max (unsigned_abs l) (unsigned_abs h)
size_within l (pos k) (pos n) x = let q = x.1 in omega (arith, ints, q)
size_within l (negsuc k) (pos n) x = let q = x.1 in absurd (omega (arith, ints, q))
size_within (negsuc k) h (negsuc n) x = let p = x.0 in omega (arith, ints, p)
size_within (pos k) h (negsuc n) x = let p = x.0 in absurd (omega (arith, ints, p))

pub around_within : (n : ℕ) (z : ℤ) → unsigned_abs z ≤ n → Between (neg_ℤ (pos n)) (pos n) z
around_within n (pos a) h = (omega (arith, ints, h), omega (arith, ints, h))
around_within n (negsuc a) h = (omega (arith, ints, h), omega (arith, ints, h))

size_opposite : (n : ℕ) → unsigned_abs (neg_ℤ (pos n)) ≡ n
size_opposite zero = refl
size_opposite (suc n) = refl

quotient_size : (a b : ℤ) → unsigned_abs (int_div a b) ≤ unsigned_abs a
quotient_size (pos a) (pos b) = div-le_self a b
quotient_size (pos a) (negsuc b) = rw (size_opposite) (div-le_self a (suc b))
quotient_size (negsuc a) (pos b) = rw (size_opposite) (div-le_self (suc a) b)
quotient_size (negsuc a) (negsuc b) = div-le_self (suc a) (suc b)

pub quotient_within : (l h a b : ℤ) → Between l h a →
    Between (neg_ℤ (pos (max (unsigned_abs l) (unsigned_abs h)))) (pos (max (unsigned_abs l) (unsigned_abs h))) (int_div a b)
quotient_within l h a b x =
    let q = quotient_size a b in
    let s = size_within l h a x in
    around_within (max (unsigned_abs l) (unsigned_abs h)) (int_div a b) (omega (arith, q, s))

pub remainder_within : (m k a b : ℤ) → 0 < unsigned_abs b → Between m k b →
    Between (neg_ℤ (pos (max (unsigned_abs m) (unsigned_abs k) - 1))) (pos (max (unsigned_abs m) (unsigned_abs k) - 1)) (int_rem a b)
remainder_within m k a b some y =
    let r = rem_below a b some in
    let s = size_within m k b y in
    around_within (max (unsigned_abs m) (unsigned_abs k) - 1) (int_rem a b) (omega (arith, r, s))

pub absolute_within : (l h a : ℤ) → Between l h a → Between (pos 0) (pos (max (unsigned_abs l) (unsigned_abs h))) (pos (unsigned_abs a))
absolute_within l h a x = let s = size_within l h a x in (omega (arith, ints), omega (arith, ints, s))
