-- Which operands an operator takes: booleans, words, and discrete values, which are integers or symbols.
use Rattle.std.specs.Prelude.{ℕ, Bool, true, false, ◌&&◌, length, ℤ, pos, int_le, int_lt}
use Rattle.smv_value.specs.Results.{alike}
use Rattle.bit_operators.specs.declared.symbolic.Symbolic.{Symbolic}
use Rattle.bit_operators.specs.declared.symbolic.Symbolic.TheVariants as symbolic

-- a boolean
abbrev pub is_boolean : Symbolic → Bool
is_boolean (symbolic.Boolean e) = true
is_boolean (symbolic.Word signed bits) = false
is_boolean (symbolic.Discrete d) = false

-- a word
abbrev pub has_bits : Symbolic → Bool
has_bits (symbolic.Boolean e) = false
has_bits (symbolic.Word signed bits) = true
has_bits (symbolic.Discrete d) = false

-- a word that has bits `high` to `low`
abbrev pub has_bits_from : ℤ → ℤ → Symbolic → Bool
has_bits_from high low (symbolic.Boolean e) = false
has_bits_from high low (symbolic.Word signed bits) = int_le (pos 0) low && int_le low high && int_lt high (pos (length bits))
has_bits_from high low (symbolic.Discrete d) = false

-- an integer or a symbol
abbrev pub is_discrete : Symbolic → Bool
is_discrete (symbolic.Boolean e) = false
is_discrete (symbolic.Word signed bits) = false
is_discrete (symbolic.Discrete d) = true

-- a boolean or a word
abbrev pub is_logical : Symbolic → Bool
is_logical (symbolic.Boolean e) = true
is_logical (symbolic.Word signed bits) = true
is_logical (symbolic.Discrete d) = false

-- a word, or a discrete value
abbrev pub is_numeric : Symbolic → Bool
is_numeric (symbolic.Boolean e) = false
is_numeric (symbolic.Word signed bits) = true
is_numeric (symbolic.Discrete d) = true

-- two words
abbrev pub have_bits : Symbolic → Symbolic → Bool
have_bits (symbolic.Word s l) (symbolic.Word t m) = true
have_bits a b = false

-- two discrete values
abbrev pub are_discrete : Symbolic → Symbolic → Bool
are_discrete (symbolic.Discrete x) (symbolic.Discrete y) = true
are_discrete a b = false

-- two booleans, or two words of one type
abbrev pub are_logical : Symbolic → Symbolic → Bool
are_logical (symbolic.Boolean x) (symbolic.Boolean y) = true
are_logical (symbolic.Word s l) (symbolic.Word t m) = alike s (length l) t (length m)
are_logical a b = false

-- two words of one type, or two discrete values
abbrev pub are_numeric : Symbolic → Symbolic → Bool
are_numeric (symbolic.Word s l) (symbolic.Word t m) = alike s (length l) t (length m)
are_numeric (symbolic.Discrete x) (symbolic.Discrete y) = true
are_numeric a b = false

-- two booleans, two words of one type, or two discrete values
abbrev pub are_alike : Symbolic → Symbolic → Bool
are_alike (symbolic.Boolean x) (symbolic.Boolean y) = true
are_alike (symbolic.Word s l) (symbolic.Word t m) = alike s (length l) t (length m)
are_alike (symbolic.Discrete x) (symbolic.Discrete y) = true
are_alike a b = false

-- a word, and how far it is shifted: an unsigned word, or a discrete value
abbrev pub can_shift : Symbolic → Symbolic → Bool
can_shift (symbolic.Word s l) (symbolic.Word false m) = true
can_shift (symbolic.Word s l) (symbolic.Discrete y) = true
can_shift a b = false
