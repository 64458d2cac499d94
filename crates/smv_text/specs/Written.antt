-- The words that word constants write (NuSMV 2.6 User Manual, 2.1, Word Constants).
use Rattle.std.specs.Prelude.{ℕ, suc, ◌==◌, Bool, false, if◌then◌else◌, List, [], ◌∷◌, take, drop, Option, None, Some}
use Rattle.smv_value.specs.declared.value.Value.{Value}
use Rattle.smv_value.specs.declared.value.Value.TheVariants as value
use Rattle.smv_text.specs.Numbers.{number_in, base_of, behind_sign, width_of, fits_width, width_len}

-- the word of these digits and so many bits, where they fit: the digits write its bits as a number, of a signed word
-- too
abbrev pub word_of : Bool → ℕ → ℕ → List ℕ → Option Value
word_of signed letter bits digits = if fits_width letter bits digits then Some (value.Word signed bits (number_in (base_of letter) digits)) else None

-- from the letter of the base on: a width or none, "_" and digits
abbrev pub word_behind_sign : Bool → List ℕ → Option Value
word_behind_sign signed [] = None
word_behind_sign signed (letter ∷ text) =
    let digits : List ℕ = drop (suc (width_len text)) text in word_of signed letter (width_of letter (take (width_len text) text) digits) digits

-- "s" says that the word is signed, "u" or neither that it is not
abbrev pub is_signed : List ℕ → Bool
is_signed [] = false
is_signed (b ∷ text) = b == 115

-- the word that a word constant in form writes
unfoldable pub word_written : List ℕ → Option Value
word_written [] = None
word_written (b ∷ text) = word_behind_sign (is_signed text) (behind_sign text)
