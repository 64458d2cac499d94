-- Lists of values and their bits.
use Rattle.std.proofs.Common.{◌≡◌, ◌∙◌, ℕ, suc, ◌+◌, Bool, true, ◌&&◌, List, [], ◌∷◌, ◌++◌, length, take, drop, refl, sym, ap, subst, arith}
use Rattle.std.specs.List.{list_all, zip}
use Rattle.std.proofs.Math.Seq.{take-append_seam, drop-append_seam}
use Rattle.std.proofs.lemmas.Bool.{and_parts}
use Rattle.std.proofs.lemmas.List.{length-append, length-drop, length-take-le, take-append-drop}
use Rattle.smv_value.specs.declared.value.Value.{Value}
use Rattle.value_types.specs.declared.value_type.ValueType.{ValueType}
use Rattle.value_types.specs.Types.{is_of_type, is_type}
use Rattle.bit_values.specs.Bits.{encoded, is_code, value_of_bits, width_of}
use Rattle.bit_values.proofs.OfBits.{bits_are}
use Rattle.bit_states.specs.Values.{are_codes, decoded_all, encoded_all, width_of_all}
use Rattle.bit_states.proofs.OfTypes.{typed_code}

-- each value is of its type
abbrev pub are_of : List ValueType → List Value → Bool
are_of types s = list_all (λ (pair : ValueType × Value). is_of_type pair.1 pair.0) (zip types s)

abbrev pub are_types : List ValueType → Bool
are_types types = list_all is_type types

first_type : (t : ValueType) (types : List ValueType) → are_types (t ∷ types) ≡ true → is_type t ≡ true
first_type t types h = (and_parts (is_type t) (are_types types) h).0

other_types : (t : ValueType) (types : List ValueType) → are_types (t ∷ types) ≡ true → are_types types ≡ true
other_types t types h = (and_parts (is_type t) (are_types types) h).1

pub length_all : (types : List ValueType) (s : List Value) → are_types types ≡ true → length types ≡ length s → length (encoded_all types s) ≡ width_of_all types
length_all [] s h l = refl
length_all (t ∷ types) [] h l = absurd (let no : ⊥ = omega (arith, l) in no)
length_all (t ∷ types) (v ∷ s) h l =
    length-append (encoded t v) (encoded_all types s)
    ∙ (λ i. (bits_are t (first_type t types h)).width v i + length_all types s (other_types t types h) (omega (arith, l)) i)

-- values are what their bits decode to

first_bits : (xs ys : List Bool) (w : ℕ) → length xs ≡ w → take w (xs ++ ys) ≡ xs
first_bits xs ys w e = subst (λ n. take n (xs ++ ys) ≡ xs) e (take-append_seam xs ys)

other_bits : (xs ys : List Bool) (w : ℕ) → length xs ≡ w → drop w (xs ++ ys) ≡ ys
other_bits xs ys w e = subst (λ n. drop n (xs ++ ys) ≡ ys) e (drop-append_seam xs ys)

pub decoded_encoded : (types : List ValueType) (s : List Value) → are_types types ≡ true → length types ≡ length s → are_of types s ≡ true → decoded_all types (encoded_all types s) ≡ s
decoded_encoded [] [] h l a = refl
decoded_encoded [] (v ∷ s) h l a = absurd (let no : ⊥ = omega (arith, l) in no)
decoded_encoded (t ∷ types) [] h l a = absurd (let no : ⊥ = omega (arith, l) in no)
decoded_encoded (t ∷ types) (v ∷ s) h l a =
    let laws = bits_are t (first_type t types h) in
    let both = and_parts (is_of_type v t) (are_of types s) a in
    let xs = encoded t v in
    let ys = encoded_all types s in
    (λ i. value_of_bits t (first_bits xs ys (width_of t) (laws.width v) i) ∷ decoded_all types (other_bits xs ys (width_of t) (laws.width v) i))
    ∙ (λ i. laws.value_back v both.0 i ∷ decoded_encoded types s (other_types t types h) (omega (arith, l)) both.1 i)

-- bits that are codes are those of the values that they decode to

part_long : (bits : List Bool) (w n : ℕ) → length bits ≡ w + n → length (take w bits) ≡ w
part_long bits w n e = length-take-le w bits (omega (arith, e))

rest_long : (bits : List Bool) (w n : ℕ) → length bits ≡ w + n → length (drop w bits) ≡ n
rest_long bits w n e = length-drop w bits ∙ omega (arith, e)

no_bits : (bits : List Bool) → length bits ≡ 0 → bits ≡ []
no_bits [] e = refl
no_bits (b ∷ bits) e = absurd (let no : ⊥ = omega (arith, e) in no)

pub encoded_decoded : (types : List ValueType) (bits : List Bool) → are_types types ≡ true → length bits ≡ width_of_all types → are_codes types bits ≡ true → encoded_all types (decoded_all types bits) ≡ bits
encoded_decoded [] bits h l a = sym (no_bits bits l)
encoded_decoded (t ∷ types) bits h l a =
    let laws = bits_are t (first_type t types h) in
    let w = width_of t in
    let both = and_parts (is_code t (take w bits)) (are_codes types (drop w bits)) a in
    (λ i. laws.bits_back (take w bits) (part_long bits w (width_of_all types) l) both.0 i
    ++ encoded_decoded types (drop w bits) (other_types t types h) (rest_long bits w (width_of_all types) l) both.1 i)
    ∙ take-append-drop w bits

-- what they decode to is of the types just where they are codes
pub typed_codes : (types : List ValueType) (bits : List Bool) → are_types types ≡ true → length bits ≡ width_of_all types → are_of types (decoded_all types bits) ≡ are_codes types bits
typed_codes [] bits h l = refl
typed_codes (t ∷ types) bits h l =
    let w = width_of t in
    λ i. typed_code t (take w bits) (first_type t types h) (part_long bits w (width_of_all types) l) i
    && typed_codes types (drop w bits) (other_types t types h) (rest_long bits w (width_of_all types) l) i

pub length_decoded : (types : List ValueType) (bits : List Bool) → length (decoded_all types bits) ≡ length types
length_decoded [] bits = refl
length_decoded (t ∷ types) bits = ap suc (length_decoded types (drop (width_of t) bits))
