-- The operators on words of n bits, over their numbers: what the word with the number a, and the one with b, give.
use Rattle.std.specs.Prelude.{ℕ, suc, ◌+◌, ◌*◌, ◌^◌, ◌-◌, ◌/◌, ◌%◌, ◌==◌, nat_lt, nat_le, Bool, true, false, if◌then◌else◌, ℤ, pos, negsuc, neg_ℤ, int_lt, int_div, int_rem}
use Rattle.bit_arith.specs.Number.{bit}

-- 2 ^ n less a, and 0 for 0
abbrev pub opposite : ℕ → ℕ → ℕ
opposite n a = (2 ^ n - a) % 2 ^ n

-- a less b, round 2 ^ n
abbrev pub difference : ℕ → ℕ → ℕ → ℕ
difference n a b = (a + 2 ^ n - b) % 2 ^ n

-- the highest of n bits is set
abbrev pub is_negative : ℕ → ℕ → Bool
is_negative n a = nat_le (2 ^ n) (2 * a)

-- the integer that n bits stand for in two's complement: where the highest is set, it is 2 ^ n less
abbrev pub integer : ℕ → ℕ → ℤ
integer n a = if is_negative n a then neg_ℤ (pos (2 ^ n - a)) else pos a

-- the number of the n bits that stand for an integer, round 2 ^ n
abbrev pub code : ℕ → ℤ → ℕ
code n (pos m) = m % 2 ^ n
code n (negsuc m) = opposite n (suc m % 2 ^ n)

-- the quotient, rounded towards zero; by zero it is the number with all bits set, of signed words 1 if a is negative
abbrev pub quotient : Bool → ℕ → ℕ → ℕ → ℕ
quotient false n a b = if b == 0 then 2 ^ n - 1 else a / b
quotient true n a b =
    if b == 0 then (if is_negative n a then 1 else 2 ^ n - 1) else code n (int_div (integer n a) (integer n b))

-- the remainder, with the sign of a; by zero it is a
abbrev pub remainder : Bool → ℕ → ℕ → ℕ → ℕ
remainder false n a b = if b == 0 then a else a % b
remainder true n a b = if b == 0 then a else code n (int_rem (integer n a) (integer n b))

-- the number of k bits that are all f
abbrev pub repeated : Bool → ℕ → ℕ
repeated f k = bit f * (2 ^ k - 1)

-- the word shifted by k places to the left, or to the right, where bits f come in
abbrev pub shifted : Bool → ℕ → ℕ → Bool → ℕ → ℕ
shifted true n k f a = (2 ^ k * a + repeated f k) % 2 ^ n
shifted false n k f a = (a + 2 ^ n * repeated f k) / 2 ^ k

-- a is below b, as numbers or as signed integers
abbrev pub is_less : Bool → ℕ → ℕ → ℕ → Bool
is_less false n a b = nat_lt a b
is_less true n a b = int_lt (integer n a) (integer n b)
