-- Values that are read by the kind of their type.
use Rattle.std.proofs.Common.{◌≡◌, ℕ, ◌<◌, ◌^◌, Bool, true, false, List, ◌++◌, None, Some, Result, Ok, bytes_eq, sym, ap, subst, ◌∙◌, arith, ℤ, pos, negsuc}
use Rattle.std.specs.Fmt.{decimal, signed_decimal}
use Rattle.std.specs.Str.Parse.{ParsesSigned, ParsesUnsigned}
use Rattle.std.proofs.lemmas.Bool.{eq-eqb, eqb-true}
use Rattle.std.proofs.lemmas.Bool.Decides.{nat_tests, same_from_decides}
use Rattle.std.specs.Int.RustNames.{FitsSigned}
use mir.Syntax.{w32}
use mir.Val.{SFits, of_z, to_z}
use lib.Dec.{eqb}
use Rattle.std.proofs.lemmas.Int.{to_z-of_z}
use Rattle.std.proofs.lemmas.Fmt.{parse-decimal_wide, parse-signed_decimal}
use Rattle.std.proofs.lemmas.Slice.Eq.{bytes_eq-Decides}
use Rattle.smv_value.specs.declared.value.Value.{Value}
use Rattle.smv_value.specs.declared.value.Value.TheVariants as value
use Rattle.smv_value.specs.Results.{is_int, is_word}
use Rattle.value_types.specs.declared.value_type.ValueType.TheVariants as type
use Rattle.value_types.specs.Types.{is_between, is_type}
use Rattle.value_texts.specs.Told.{told_text}
use Rattle.value_texts.specs.Read.{IsIntRead, IsNumberRead, IsRead, word_front}
use Rattle.value_texts.proofs.Apart.{int_once, range_shape, same_behind, small, word_shape, word_small}
use Rattle.value_texts.proofs.Starts.{decimal_once}

-- what is printed as it was read is no other text
pub not_printed : {A : Type 0} (text printed : List ℕ) (show : A → List ℕ) (x y : A) → printed ≡ show x → x ≡ y → show y ≡ text → bytes_eq printed text ≡ false → ⊥
not_printed text printed show x y p e is differ =
    let same : printed ≡ text = p ∙ ap show e ∙ is in
    let yes : bytes_eq printed text ≡ true = (bytes_eq-Decides printed text).1 same in
    let never : ⊥ = cc in never

-- an integer between two is one of the range; one that is not between them is none, and where no integer is read, none
-- is either
pub no_integer : (names : List (List ℕ)) (low high : ℤ) (text : List ℕ) → is_type (type.Range low high) ≡ true → IsIntRead text None → IsRead names (type.Range low high) text None
no_integer names low high text typed none v h told =
    let is = range_shape low high v typed h in
    none is.0 is.2 (ap (told_text names) (sym is.1) ∙ told)

pub outside : (names : List (List ℕ)) (low high z : ℤ) (text : List ℕ) → is_type (type.Range low high) ≡ true → IsIntRead text (Some z) → (is_between low high (value.Int z) ≡ true → ⊥) → IsRead names (type.Range low high) text None
outside names low high z text typed read out v h told =
    let is = range_shape low high v typed h in
    let same : is.0 ≡ z = int_once is.0 z is.2 read.0 (ap (told_text names) (sym is.1) ∙ told ∙ sym read.1) in
    out (subst (λ (y : ℤ). is_between low high (value.Int y) ≡ true) same (subst (λ (w : Value). is_between low high w ≡ true) is.1 h))

-- what is no word's text, and what is
pub no_front : (names : List (List ℕ)) (s : Bool) (w : ℕ) (text : List ℕ) → ((rest : List ℕ) → text ≡ word_front s w ++ rest → ⊥) → IsRead names (type.Word s w) text None
no_front names s w text none v h told =
    let is = word_shape s w v h in
    none (decimal is.0) (sym told ∙ ap (told_text names) is.1)

pub no_bits : (names : List (List ℕ)) (s : Bool) (w : ℕ) (digits : List ℕ) → IsNumberRead digits None → IsRead names (type.Word s w) (word_front s w ++ digits) None
no_bits names s w digits none v h told =
    let is = word_shape s w v h in
    none is.0 (word_small w is.0 is.2) (same_behind (word_front s w) (decimal is.0) digits (ap (told_text names) (sym is.1) ∙ told))

-- integers of 32 bits
pub fits : (z : ℤ) → is_int z ≡ true → FitsSigned w32 z
fits z h = record { sfits = small z h }

pub int_of : (z : ℤ) → FitsSigned w32 z → is_int z ≡ true
int_of (pos n) h = let below : n < 2 ^ 31 = h.sfits in grind (arith, nat_tests)
int_of (negsuc n) h = let below : n < 2 ^ 31 = h.sfits in grind (arith, nat_tests)

pub int_back : {E : Type 0} (z : ℤ) (text : List ℕ) (r : Result ℤ E) → is_int z ≡ true → signed_decimal z ≡ text → ParsesSigned w32 10 text r → r ≡ Ok z
int_back z text r h e parsed = let least = small z h in parse-signed_decimal w32 z text r (fits z h) (omega (arith, least)) (sym e) parsed

pub number_back : {E : Type 0} (n : ℕ) (text : List ℕ) (r : Result ℕ E) → n < 2 ^ 128 → decimal n ≡ text → ParsesUnsigned 128 10 text r → r ≡ Ok n
number_back n text r h e parsed = parse-decimal_wide 128 n text r h (omega (arith, h)) (sym e) parsed

pub same_ok : {A E : Type 0} (r : Result A E) (x y : A) → r ≡ Ok x → r ≡ Ok y → x ≡ y
same_ok r x y e f = cc

pub no_word : (names : List (List ℕ)) (s : Bool) (w bits : ℕ) (digits : List ℕ) → IsNumberRead digits (Some bits) → is_word w bits ≡ false → IsRead names (type.Word s w) (word_front s w ++ digits) None
no_word names s w bits digits read not_one v h told =
    let is = word_shape s w v h in
    let few : is.0 < 10 ^ 64 = let below = word_small w is.0 is.2 in omega (arith, below) in
    let same : is.0 ≡ bits = decimal_once is.0 bits few (omega (arith, read.0))
    (same_behind (word_front s w) (decimal is.0) digits (ap (told_text names) (sym is.1) ∙ told) ∙ sym read.1) in
    let yes : is_word w bits ≡ true = ap (is_word w) (sym same) ∙ is.2 in
    let never : ⊥ = cc in never

-- an integer's text is that of another one only where they are one
pub int_text : (k z : ℤ) (text : List ℕ) → IsIntRead text (Some k) → SFits w32 z → eqb (of_z w32 k) (of_z w32 z) ≡ bytes_eq (signed_decimal z) text
int_text k z text read small_z = same_from_decides (eqb (of_z w32 k) (of_z w32 z)) (bytes_eq (signed_decimal z) text) (
  λ e.
      let bits : of_z w32 k ≡ of_z w32 z = eqb-true (of_z w32 k) (of_z w32 z) e in
      let same : k ≡ z = sym (to_z-of_z w32 k (fits k read.0)) ∙ ap (to_z w32) bits ∙ to_z-of_z w32 z small_z in
      ap signed_decimal (sym same) ∙ read.1,
  λ e. eq-eqb (of_z w32 k) (of_z w32 z) (ap (of_z w32) (int_once k z read.0 (int_of z small_z) (read.1 ∙ sym e))),
)
    (bytes_eq-Decides (signed_decimal z) text)

-- an integer of 32 bits that crosses a call
abbrev pub passed : ℤ → ℤ
passed z = to_z w32 (of_z w32 z)

pub between_passed : (low high z : ℤ) → SFits w32 low → SFits w32 high → SFits w32 z → is_between (passed low) (passed high) (value.Int (passed z)) ≡ is_between low high (value.Int z)
between_passed low high z a b c =
    ap (λ (x : ℤ). is_between x (passed high) (value.Int (passed z))) (to_z-of_z w32 low a)
    ∙ ap (λ (x : ℤ). is_between low x (value.Int (passed z))) (to_z-of_z w32 high b)
    ∙ ap (λ (x : ℤ). is_between low high (value.Int x)) (to_z-of_z w32 z c)

pub range_passed : (low high : ℤ) → SFits w32 low → SFits w32 high → type.Range (passed low) (passed high) ≡ type.Range low high
range_passed low high a b = ap (λ (x : ℤ). type.Range x (passed high)) (to_z-of_z w32 low a) ∙ ap (type.Range low) (to_z-of_z w32 high b)
