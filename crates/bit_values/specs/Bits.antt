-- The bits of values: an own choice of this project.
use Rattle.std.specs.Prelude.{◌≡◌, ℕ, zero, suc, ◌+◌, ◌/◌, ◌%◌, ◌^◌, ◌≤◌, ◌==◌, Bool, true, false, if◌then◌else◌, nat_lt, nat_le, List, [], ◌∷◌, length, unwrap_or}
use Rattle.smv_value.specs.declared.value.Value.{Value}
use Rattle.smv_value.specs.declared.value.Value.TheVariants as value
use Rattle.value_types.specs.declared.value_type.ValueType.{ValueType}
use Rattle.value_types.specs.declared.value_type.ValueType.TheVariants as type
use Rattle.value_types.specs.Types.{is_of_type}
use Rattle.value_types.specs.Codes.{code_of, count, value_at}
use Rattle.bit_arith.specs.Number.{number}

-- how often m is halved, rounded up, until it is at most 1
abbrev pub halvings : ℕ → ℕ → ℕ
halvings zero m = 0
halvings (suc depth) m = if nat_le m 1 then 0 else suc (halvings depth (m / 2 + m % 2))

-- the least number of bits that count m codes
unfoldable pub least_bits : ℕ → ℕ
least_bits m = halvings m m

-- what is said of it
pub record IsLeastWidth (m n : ℕ) : Type 0 where
  pub fits : m ≤ 2 ^ n
  pub least : (k : ℕ) → m ≤ 2 ^ k → n ≤ k

-- how many bits a value of the type has
abbrev pub width_of : ValueType → ℕ
width_of type.Boolean = 1
width_of (type.Word signed width) = width
width_of (type.Range low high) = least_bits (count (type.Range low high))
width_of (type.Enumeration elements) = least_bits (length elements)

-- the low bits of a number, so many, the lowest first
abbrev pub bits_of : ℕ → ℕ → List Bool
bits_of zero n = []
bits_of (suc width) n = (n % 2 == 1) ∷ bits_of width (n / 2)

-- the bits of a value of the type
abbrev pub encoded : ValueType → Value → List Bool
encoded t v = bits_of (width_of t) (unwrap_or (code_of t v) 0)

-- the value of the type that has these bits; FALSE where none has
abbrev pub value_of_bits : ValueType → List Bool → Value
value_of_bits t bits = unwrap_or (value_at t (number (λ b. b) bits)) (value.Bool false)

-- the bits are those of a value, where they are as many as the type's width
abbrev pub is_code : ValueType → List Bool → Bool
is_code t bits = nat_lt (number (λ b. b) bits) (count t)

-- values of the type and lists of bits that are a code are each other's, one by one
pub record AreBitsOf (t : ValueType) : Type 0 where
  pub width : (v : Value) → length (encoded t v) ≡ width_of t
  pub value_back : (v : Value) → is_of_type v t ≡ true → value_of_bits t (encoded t v) ≡ v
  pub coded : (v : Value) → is_of_type v t ≡ true → is_code t (encoded t v) ≡ true
  pub bits_back : (bits : List Bool) → length bits ≡ width_of t → is_code t bits ≡ true → encoded t (value_of_bits t bits) ≡ bits
  pub typed : (bits : List Bool) → is_code t bits ≡ true → is_of_type (value_of_bits t bits) t ≡ true
