-- Values read back from their texts, by their type.
use Rattle.std.specs.Prelude.{◌≡◌, ℕ, ◌^◌, ◌<◌, ℤ, Bool, true, false, List, ◌++◌, Option, None, Some, position, bytes_eq, codes, cond}
use Rattle.std.specs.Fmt.{decimal, signed_decimal}
use Rattle.std.specs.List.{range_with_len}
use Rattle.smv_value.specs.declared.value.Value.{Value}
use Rattle.smv_value.specs.Results.{is_int}
use Rattle.value_types.specs.declared.value_type.Element.{Element}
use Rattle.value_types.specs.declared.value_type.ValueType.{ValueType}
use Rattle.value_types.specs.Codes.{count, value_at}
use Rattle.value_types.specs.Types.{element_value, is_of_type}
use Rattle.value_texts.specs.Told.{told_text}

-- this is a value that is told so
abbrev pub is_told : List (List ℕ) → List ℕ → Option Value → Bool
is_told names text None = false
is_told names text (Some v) = bytes_eq (told_text names v) text

abbrev pub value_of_code : ValueType → Option ℕ → Option Value
value_of_code t None = None
value_of_code t (Some c) = value_at t c

-- the value of the type that is told so, if there is one
unfoldable pub value_read : List (List ℕ) → ValueType → List ℕ → Option Value
value_read names t text = value_of_code t (position (λ (c : ℕ). is_told names text (value_at t c)) (range_with_len 0 (count t)))

-- each value of the type is read from its text, and only from it
pub record IsReading (names : List (List ℕ)) (t : ValueType) : Type 0 where
  pub back : (v : Value) → is_of_type v t ≡ true → value_read names t (told_text names v) ≡ Some v
  pub only : (text : List ℕ) (v : Value) → value_read names t text ≡ Some v → (is_of_type v t ≡ true) × (told_text names v ≡ text)

-- What the calls below give.

-- the value of the type is told so, or none is
abbrev pub IsRead : List (List ℕ) → ValueType → List ℕ → Option Value → Type 0
IsRead names t text None = (v : Value) → is_of_type v t ≡ true → told_text names v ≡ text → ⊥
IsRead names t text (Some v) = (is_of_type v t ≡ true) × (told_text names v ≡ text)

abbrev pub is_element_told : List (List ℕ) → List ℕ → Element → Bool
is_element_told names text e = bytes_eq (told_text names (element_value e)) text

-- the integer of 32 bits is printed so, or none is
abbrev pub IsIntRead : List ℕ → Option ℤ → Type 0
IsIntRead text None = (z : ℤ) → is_int z ≡ true → signed_decimal z ≡ text → ⊥
IsIntRead text (Some z) = (is_int z ≡ true) × (signed_decimal z ≡ text)

-- the number of 128 bits is printed so, or none is
abbrev pub IsNumberRead : List ℕ → Option ℕ → Type 0
IsNumberRead text None = (n : ℕ) → n < 2 ^ 128 → decimal n ≡ text → ⊥
IsNumberRead text (Some n) = (n < 2 ^ 128) × (decimal n ≡ text)

-- what stands before the bits of a word
abbrev pub word_front : Bool → ℕ → List ℕ
word_front signed width = cond signed (codes "0sd") (codes "0ud") ++ decimal width ++ codes "_"
