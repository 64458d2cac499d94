-- Integers and word constants (NuSMV 2.6 User Manual, 2.1, Integer Numbers and Word Constants; limits are own choices
-- of this project).
use Rattle.std.specs.Prelude.{ℕ, ◌+◌, ◌*◌, ◌^◌, ◌==◌, nat_lt, nat_le, Bool, false, ◌&&◌, ◌||◌, if◌then◌else◌, List, [], ◌∷◌, length, take, drop, count_by, not}
use Rattle.std.specs.Char.{is_ascii_digit, is_ascii_alphanumeric, digit_value, is_digit}
use Rattle.std.specs.List.{list_all, prefix_len}

abbrev pub underscore : ℕ
underscore = 95

-- the number that digits write behind a number, in a base; underscores are skipped
abbrev pub number_behind : ℕ → ℕ → List ℕ → ℕ
number_behind base n [] = n
number_behind base n (d ∷ digits) = if d == underscore then number_behind base n digits else number_behind base (n * base + digit_value d) digits

-- the number that digits write in a base
abbrev pub number_in : ℕ → List ℕ → ℕ
number_in base digits = number_behind base 0 digits

-- the greatest integer that a source may write
abbrev pub greatest_integer : ℕ
greatest_integer = 2147483647

-- A word constant is "0", then "u" or "s" or neither ..
abbrev pub zero_digit : ℕ
zero_digit = 48

abbrev pub sign_len : List ℕ → ℕ
sign_len [] = 0
sign_len (b ∷ rest) = if b == 117 || b == 115 then 1 else 0

abbrev pub behind_sign : List ℕ → List ℕ
behind_sign text = drop (sign_len text) text

-- .. then one of "b", "o", "d", "h", in either case ..
abbrev pub is_binary : ℕ → Bool
is_binary letter = letter == 98 || letter == 66

abbrev pub is_octal : ℕ → Bool
is_octal letter = letter == 111 || letter == 79

abbrev pub is_decimal : ℕ → Bool
is_decimal letter = letter == 100 || letter == 68

abbrev pub is_hexadecimal : ℕ → Bool
is_hexadecimal letter = letter == 104 || letter == 72

abbrev pub is_base : ℕ → Bool
is_base letter = is_binary letter || is_octal letter || is_decimal letter || is_hexadecimal letter

abbrev pub base_of : ℕ → ℕ
base_of letter = if is_binary letter then 2 else (if is_octal letter then 8 else (if is_decimal letter then 10 else 16))

-- .. and then as many letters, digits and underscores as there are.
abbrev pub in_constant : ℕ → Bool
in_constant b = is_ascii_alphanumeric b || b == underscore

-- "0", the sign and the letter of a base stand at the front: here a word constant begins
abbrev pub has_base : List ℕ → Bool
has_base [] = false
has_base (letter ∷ rest) = is_base letter

abbrev pub begins_constant : List ℕ → Bool
begins_constant [] = false
begins_constant (b ∷ rest) = b == zero_digit && has_base (behind_sign rest)

-- how many bytes the word constant at the front has
abbrev pub constant_len : List ℕ → ℕ
constant_len text = sign_len (drop 1 text) + 2 + prefix_len in_constant (drop (sign_len (drop 1 text) + 2) text)

-- the text behind the letter of the base passes this test, which may ask for the letter
abbrev pub base_and_rest : (ℕ → List ℕ → Bool) → List ℕ → Bool
base_and_rest test [] = false
base_and_rest test (letter ∷ rest) = is_base letter && test letter rest

-- this is "0", the sign and the letter of a base, and a text that passes the test
abbrev pub constant_with : (ℕ → List ℕ → Bool) → List ℕ → Bool
constant_with test [] = false
constant_with test (b ∷ rest) = b == zero_digit && base_and_rest test (behind_sign rest)

-- the text is one word constant, or would be if it were in form
abbrev pub is_constant : List ℕ → Bool
is_constant text = constant_with (λ letter. list_all in_constant) text

-- without a width a constant has 1, 3 or 4 bits for each digit; one in base ten needs a width
abbrev pub bits_of_digit : ℕ → ℕ
bits_of_digit letter = if is_binary letter then 1 else (if is_octal letter then 3 else (if is_decimal letter then 0 else 4))

abbrev pub digits_in : List ℕ → ℕ
digits_in digits = count_by (λ d. not (d == underscore)) digits

-- how many bits the constant has: its width where it is written
abbrev pub width_of : ℕ → List ℕ → List ℕ → ℕ
width_of letter width digits = if length width == 0 then bits_of_digit letter * digits_in digits else number_in 10 width

-- the digits are some of the base, and write a number of so many bits, which are 1 to 128
abbrev pub fits_width : ℕ → ℕ → List ℕ → Bool
fits_width letter bits digits = nat_le 1 bits && nat_le bits 128 && nat_lt (number_in (base_of letter) digits) (2 ^ bits)

abbrev pub are_digits : ℕ → List ℕ → Bool
are_digits letter digits = list_all (λ d. d == underscore || is_digit d (base_of letter)) digits

-- what stands behind the width is "_" and digits that fit
abbrev pub fits_behind : ℕ → List ℕ → List ℕ → Bool
fits_behind letter width [] = false
fits_behind letter width (b ∷ digits) = b == underscore && are_digits letter digits && nat_le 1 (digits_in digits) && fits_width letter (width_of letter width digits) digits

abbrev pub width_len : List ℕ → ℕ
width_len text = prefix_len is_ascii_digit text

-- behind the letter of the base stand a decimal width or none, "_" and digits, and all fit
abbrev pub is_in_form : ℕ → List ℕ → Bool
is_in_form letter text = fits_behind letter (take (width_len text) text) (drop (width_len text) text)

-- the text is a word constant in form
unfoldable pub is_word_constant : List ℕ → Bool
is_word_constant text = constant_with is_in_form text
