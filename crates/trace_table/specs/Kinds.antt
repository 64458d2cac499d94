-- The kinds of values, which their texts tell.
use Rattle.std.specs.Prelude.{ℕ, ◌+◌, ◌-◌, ◌*◌, ◌/◌, ◌%◌, ◌^◌, ◌==◌, nat_lt, zero, suc, Bool, ◌&&◌, ◌||◌, if◌then◌else◌, List, [], ◌∷◌, ◌++◌, length, codes, bytes_eq, Option, None, Some, slice_get}
use Rattle.std.specs.Char.{is_ascii_digit}
use Rattle.plain_text.specs.Decimals.{is_numeral, number_up_to}
use Rattle.trace_lines.specs.declared.entry.Binding.{Binding}
use Rattle.trace_table.specs.declared.kinds.Kind.{Kind}
use Rattle.trace_table.specs.declared.kinds.Kind.TheVariants.{Bit, Bits, Number, Symbol}
use Rattle.trace_table.specs.declared.kinds.Word.{Word}
use Rattle.trace_table.specs.Cells.{value_at, value_of}
use Rattle.trace_lines.specs.Lines.{pieces}

abbrev pub without_sign : List ℕ → List ℕ
without_sign [] = []
without_sign (b ∷ bs) = if b == 45 then bs else b ∷ bs

abbrev pub is_integer : List ℕ → Bool
is_integer text = is_numeral (without_sign text)

-- the number of at most 128 bits that these digits write behind those of n
abbrev pub with_digit : ℕ → ℕ → Option ℕ
with_digit n d = if is_ascii_digit d && nat_lt (n * 10 + (d - 48)) (2 ^ 128) then Some (n * 10 + (d - 48)) else None

abbrev pub and_digits : Option ℕ → (ℕ → Option ℕ) → Option ℕ
and_digits None more = None
and_digits (Some n) more = more n

abbrev pub digits_from : ℕ → List ℕ → Option ℕ
digits_from n [] = Some n
digits_from n (d ∷ ds) = and_digits (with_digit n d) (λ m. digits_from m ds)

-- A word is written as 0ud8_255, or 0sd8_255: its width, which is at most 128, and its bits as a number, which have
-- this width.
abbrev pub width_of : List ℕ → Option ℕ
width_of [] = None
width_of (a ∷ []) = None
width_of (a ∷ b ∷ []) = None
width_of (a ∷ b ∷ c ∷ ws) = if a == 48 && ((b == 117 || b == 115) && c == 100) then number_up_to 128 ws else None

abbrev pub fitting : ℕ → Option ℕ → Option Word
fitting w None = None
fitting w (Some n) = if nat_lt 0 w && nat_lt n (2 ^ w) then Some (record { width = w; bits = n }) else None

abbrev pub word_from : Option ℕ → List ℕ → Option Word
word_from None digits = None
word_from (Some w) digits = if length digits == 0 then None else fitting w (digits_from 0 digits)

abbrev pub word_in : List (List ℕ) → Option Word
word_in (front ∷ digits ∷ []) = word_from (width_of front) digits
word_in other = None

unfoldable pub word_of : List ℕ → Option Word
word_of text = word_in (pieces 95 text)

-- the bits of a number, of this width, the highest first
abbrev pub bit_text : ℕ → List ℕ
bit_text n = if n % 2 == 1 then codes "1" else codes "0"

abbrev pub bits_text : ℕ → ℕ → List ℕ
bits_text zero n = []
bits_text (suc w) n = bits_text w (n / 2) ++ bit_text n

abbrev pub kind_by : Option Word → List ℕ → Kind
kind_by (Some w) text = Bits w.width
kind_by None text = if is_integer text then Number else Symbol

unfoldable pub kind_of : List ℕ → Kind
kind_of text = if bytes_eq text (codes "TRUE") || bytes_eq text (codes "FALSE") then Bit else kind_by (word_of text) text

abbrev pub kind_shown : Option (List ℕ) → Kind
kind_shown None = Symbol
kind_shown (Some text) = kind_of text

-- the kind of two values that stand in one column
abbrev pub joined : Kind → Kind → Kind
joined Bit Bit = Bit
joined (Bits w) (Bits v) = if w == v then Bits w else Symbol
joined Number Number = Number
joined k other = Symbol

abbrev pub column_from : Kind → ℕ → List (List Binding) → Kind
column_from k j [] = k
column_from k j (row ∷ rows) = column_from (joined k (kind_shown (value_of (slice_get row j)))) j rows

-- the kind of all values of a column
abbrev pub column_kind : List (List Binding) → ℕ → Kind
column_kind rows j = column_from (kind_shown (value_at rows 0 j)) j rows

-- those of the columns of these names, from j on
abbrev pub kinds_from : List (List Binding) → ℕ → List Binding → List Kind
kinds_from rows j [] = []
kinds_from rows j (b ∷ bs) = column_kind rows j ∷ kinds_from rows (j + 1) bs
