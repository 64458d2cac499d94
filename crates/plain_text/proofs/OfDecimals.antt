-- What std reads of digits is the number that they write.
use Rattle.std.proofs.Common.{◌≡◌, ℕ, ◌<◌, ◌≤◌, ◌^◌, true, List, Some, None, Result, Ok, Err, arith, rules}
use Rattle.std.specs.Char.{is_ascii_digit}
use Rattle.std.specs.List.{list_all}
use Rattle.std.specs.Str.{IsUtf8}
use Rattle.std.specs.Str.Parse.{digits_value, ParsesUnsigned}
use Rattle.std.proofs.lemmas.Bool.Decides.{leb_tells}
use Rattle.std.proofs.lemmas.Fmt.{IsAscii-from_digits}
use Rattle.std.proofs.lemmas.Str.{IsUtf8-from_ascii}
use Rattle.std.proofs.lemmas.Str.Parse.{IsNumeralModel, numerals_by_value, parse_digits}
use Rattle.plain_text.specs.Decimals.{number_up_to}

own : IsNumeralModel (λ ds. list_all is_ascii_digit ds ≡ true) (digits_value 10)
own = numerals_by_value _ (search rules)

-- digits are a text
pub digits_utf8 : (bytes : List ℕ) → list_all is_ascii_digit bytes ≡ true → IsUtf8 bytes
digits_utf8 bytes digits = IsUtf8-from_ascii bytes (IsAscii-from_digits bytes (own.to bytes digits))

module _ {E : Type 0} (limit : ℕ) (bytes text : List ℕ) (same : text ≡ bytes) (digits : list_all is_ascii_digit bytes ≡ true) (r : Result ℕ E) (h : ParsesUnsigned 64 10 text r) where
  -- the number that is read, if it is at most the limit
  pub number_told : (n : ℕ) → r ≡ Ok n → n ≤ limit → Some n ≡ number_up_to limit bytes
  unfolding number_up_to
  number_told n e small =
      let read = parse_digits own 64 bytes r (rw same at h) digits in
      let told = rw e at read in
      grind (arith, told, digits, small, leb_tells)

  -- it is greater
  pub number_past : (n : ℕ) → r ≡ Ok n → limit < n → None ≡ number_up_to limit bytes
  unfolding number_up_to
  number_past n e past =
      let read = parse_digits own 64 bytes r (rw same at h) digits in
      let told = rw e at read in
      grind (arith, told, digits, past, leb_tells)

  -- none is read
  pub number_missing : (fault : E) → r ≡ Err fault → limit < 2 ^ 64 → None ≡ number_up_to limit bytes
  unfolding number_up_to
  number_missing fault e fits =
      let read = parse_digits own 64 bytes r (rw same at h) digits in
      let told = rw e at read in
      grind (arith, told, digits, fits, leb_tells)
