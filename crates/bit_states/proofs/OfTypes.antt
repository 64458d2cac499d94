-- Bits of one value.
use Rattle.std.proofs.Common.{◌≡◌, ℕ, ◌<◌, ◌≤◌, Bool, true, false, cond, List, [], ◌∷◌, length, ℤ, pos, ◌+ℤ◌, ◌-ℤ◌, inl, inr, refl, sym, ap, subst, ◌∙◌, arith}
use Rattle.std.specs.Prelude.{None, Some, int_le, unwrap_or}
use Rattle.std.specs.List.{list_any}
use Rattle.std.specs.Option.{option_map}
use Rattle.std.proofs.lemmas.Bool.{cases_Bool, ltb-false}
use Rattle.std.proofs.lemmas.Int.{ints}
use Rattle.std.proofs.lemmas.Option.{slice_get_past}
use Rattle.smv_value.specs.declared.value.Value.TheVariants as value
use Rattle.smv_value.specs.Results.{natural}
use Rattle.value_types.specs.declared.value_type.Element.{Element}
use Rattle.value_types.specs.declared.value_type.Element.TheVariants as element
use Rattle.value_types.specs.declared.value_type.ValueType.{ValueType}
use Rattle.value_types.specs.declared.value_type.ValueType.TheVariants as type
use Rattle.value_types.specs.Types.{element_value, is_element, is_of_type, is_type}
use Rattle.value_types.specs.Codes.{count}
use Rattle.value_types.proofs.Ranges.{offset_of}
use Rattle.bit_arith.specs.Number.{number}
use Rattle.bit_values.specs.Bits.{is_code, value_of_bits, width_of}
use Rattle.bit_values.proofs.OfBits.{bits_are}
use Rattle.bit_values.proofs.Widths.{all_codes}

-- FALSE is no element

no_element : (es : List Element) → list_any (is_element (value.Bool false)) es ≡ false
no_element [] = refl
no_element (element.Int z ∷ es) = no_element es
no_element (element.Sym n ∷ es) = no_element es

-- a number past the last code is no code of a range

from_low : (low : ℤ) (c : ℕ) → int_le low (low +ℤ pos c) ≡ true
from_low low c = grind (arith, ints)

distance : (low : ℤ) (c : ℕ) → natural (low +ℤ pos c -ℤ low) ≡ c
distance low c =
    let same : low +ℤ pos c -ℤ low ≡ pos c = omega (arith, ints) in
    ap natural same

in_range : (low high : ℤ) (c : ℕ) → int_le (low +ℤ pos c) high ≡ true → c < count (type.Range low high)
in_range low high c h =
    let offset = offset_of low high (low +ℤ pos c) (from_low low c) h in
    let P : ℕ → Type 0 = λ n. n < count (type.Range low high) in
    subst P (distance low c) offset.below

past_range : (low high : ℤ) (c : ℕ) → count (type.Range low high) ≤ c → int_le (low +ℤ pos c) high ≡ false
past_range low high c l =
    elim (cases_Bool (int_le (low +ℤ pos c) high)) [
      | inl it ↦ absurd (let m = in_range low high c it in let no : ⊥ = omega (arith, m, l) in no)
      | inr not_it ↦ not_it
    ]

-- bits that are no code are of no value
not_typed : (t : ValueType) (bits : List Bool) → length bits ≡ width_of t → is_code t bits ≡ false → is_of_type (value_of_bits t bits) t ≡ false
not_typed type.Boolean bits l e = absurd (let yes = all_codes type.Boolean bits refl l in let no : ⊥ = cc in no)
not_typed (type.Word s w) bits l e = absurd (let yes = all_codes (type.Word s w) bits refl l in let no : ⊥ = cc in no)
not_typed (type.Range low high) bits l e =
    let c = number (λ b. b) bits in
    let past : count (type.Range low high) ≤ c = ltb-false c (count (type.Range low high)) e in
    ap (λ b. is_of_type (unwrap_or (cond b (Some (value.Int (low +ℤ pos c))) None) (value.Bool false)) (type.Range low high)) (past_range low high c past)
not_typed (type.Enumeration es) bits l e =
    let c = number (λ b. b) bits in
    let past : length es ≤ c = ltb-false c (length es) e in
    ap (λ o. is_of_type (unwrap_or (option_map element_value o) (value.Bool false)) (type.Enumeration es)) (slice_get_past es c past) ∙ no_element es

-- bits are of a value just where they are a code
pub typed_code : (t : ValueType) (bits : List Bool) → is_type t ≡ true → length bits ≡ width_of t → is_of_type (value_of_bits t bits) t ≡ is_code t bits
typed_code t bits h l =
    elim (cases_Bool (is_code t bits)) [
      | inl it ↦ (bits_are t h).typed bits it ∙ sym it
      | inr not_it ↦ not_typed t bits l not_it ∙ sym not_it
    ]
