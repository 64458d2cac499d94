-- Walks along types, and the bits or values that are left.
use Rattle.std.proofs.Common.{◌≡◌, ◌∙◌, ℕ, zero, suc, ◌+◌, ◌<◌, ◌≤◌, ◌^◌, Bool, true, List, [], ◌∷◌, ◌++◌, length, get_or, take, drop, refl, sym, ap, arith, add-one, append_assoc, append-nil}
use Rattle.std.specs.Prelude.{Option, None, Some, slice_get}
use Rattle.std.specs.List.{list_all, range_with_len}
use Rattle.std.proofs.Math.ListN.{drop_of_length-le}
use Rattle.std.proofs.Math.Seq.{drop-cons}
use Rattle.std.proofs.lemmas.Bool.{and_parts}
use Rattle.std.proofs.lemmas.List.{length-drop, map-id}
use Rattle.std.proofs.lemmas.List.FromFn.{map-range_with_len_more}
use Rattle.smv_value.specs.declared.value.Value.{Value}
use Rattle.value_types.specs.declared.value_type.ValueType.{ValueType}
use Rattle.value_types.specs.declared.value_type.ValueType.TheVariants as type
use Rattle.value_types.specs.Types.{is_type}
use Rattle.value_types.specs.Codes.{count, discrete_count}
use Rattle.bit_values.specs.Bits.{encoded, least_bits, value_of_bits, width_of}
use Rattle.bit_values.proofs.Widths.{least_bits-le}
use Rattle.bit_states.specs.Values.{decoded_all, encoded_all, width_of_all}

-- what is left begins with the next one

pub next_left : {A : Type 0} (xs : List A) (i : ℕ) (x : A) → i < length xs → x ≡ get_or xs i x → drop i xs ≡ x ∷ drop (i + 1) xs
next_left xs i x lt is = drop-cons xs i x lt ∙ (λ j. sym is j ∷ drop (sym (add-one i) j) xs)

no_left : {A : Type 0} (xs : List A) (i : ℕ) → slice_get xs i ≡ None → drop i xs ≡ []
no_left [] zero e = refl
no_left [] (suc i) e = refl
no_left (x ∷ xs) zero e = absurd cc
no_left (x ∷ xs) (suc i) e = no_left xs i e

some_left : {A : Type 0} (xs : List A) (i : ℕ) (x : A) → slice_get xs i ≡ Some x → drop i xs ≡ x ∷ drop (suc i) xs
some_left [] i x e = absurd cc
some_left (y ∷ xs) zero x e = let is : y ≡ x = cc in ap (λ z. z ∷ xs) is
some_left (y ∷ xs) (suc i) x e = some_left xs i x e

-- what is so of all is so of each
pub of_all : {A : Type 0} (test : A → Bool) (xs : List A) (i : ℕ) (x : A) → list_all test xs ≡ true → i < length xs → x ≡ get_or xs i x → test x ≡ true
of_all test [] i x h lt is = absurd (let no : ⊥ = omega (arith, lt) in no)
of_all test (y ∷ xs) zero x h lt is = ap test is ∙ (and_parts (test y) (list_all test xs) h).0
of_all test (y ∷ xs) (suc i) x h lt is = of_all test xs i x (and_parts (test y) (list_all test xs) h).1 (omega (arith, lt)) is

-- widths

pub width_left : (types : List ValueType) (i : ℕ) (t : ValueType) → i < length types → t ≡ get_or types i t → width_of_all (drop i types) ≡ width_of t + width_of_all (drop (i + 1) types)
width_left types i t lt is = ap width_of_all (next_left types i t lt is)

pub width_done : (types : List ValueType) (i : ℕ) → length types ≤ i → width_of_all (drop i types) ≡ 0
width_done types i h = ap width_of_all (drop_of_length-le types {i = i} h)

-- a list of bits that is as long as what is left

pub enough : {A : Type 0} (types : List ValueType) (rest : List A) (i : ℕ) (t : ValueType) → i < length types → t ≡ get_or types i t → length rest ≡ width_of_all (drop i types) →
    width_of t ≤ length rest
enough types rest i t lt is l = omega (arith, l, width_left types i t lt is)

pub long_left : {A : Type 0} (types : List ValueType) (rest : List A) (i : ℕ) (t : ValueType) → i < length types → t ≡ get_or types i t → length rest ≡ width_of_all (drop i types) →
    length (drop (width_of t) rest) ≡ width_of_all (drop (i + 1) types)
long_left types rest i t lt is l = length-drop (width_of t) rest ∙ omega (arith, l, width_left types i t lt is)

-- bits of values so far, and of those that are left

none_encoded : (types : List ValueType) → encoded_all types [] ≡ []
none_encoded [] = refl
none_encoded (t ∷ types) = refl

pub encoded_next : (types : List ValueType) (values : List Value) (i : ℕ) (t : ValueType) (v : Value) (made new whole : List Bool) → i < length types → t ≡ get_or types i t → slice_get values i ≡ Some v →
    new ≡ made ++ encoded t v → made ++ encoded_all (drop i types) (drop i values) ≡ whole → new ++ encoded_all (drop (i + 1) types) (drop (i + 1) values) ≡ whole
encoded_next types values i t v made new whole lt is at made_is h =
    let more = encoded_all (drop (i + 1) types) (drop (i + 1) values) in
    let next : drop i values ≡ v ∷ drop (i + 1) values = some_left values i v at ∙ (λ j. v ∷ drop (sym (add-one i) j) values) in
    ap (λ (l : List Bool). l ++ more) made_is ∙ append_assoc made (encoded t v) more
    ∙ sym (λ j. made ++ encoded_all (next_left types i t lt is j) (next j)) ∙ h

pub encoded_short : (types : List ValueType) (values : List Value) (i : ℕ) (made whole : List Bool) → slice_get values i ≡ None → made ++ encoded_all (drop i types) (drop i values) ≡ whole → made ≡ whole
encoded_short types values i made whole none h =
    sym (ap (λ (l : List Value). made ++ encoded_all (drop i types) l) (no_left values i none) ∙ ap (λ (l : List Bool). made ++ l) (none_encoded (drop i types)) ∙ append-nil made) ∙ h

pub encoded_done : (types : List ValueType) (values : List Value) (i : ℕ) (made whole : List Bool) → length types ≤ i → made ++ encoded_all (drop i types) (drop i values) ≡ whole → made ≡ whole
encoded_done types values i made whole end h =
    sym (ap (λ (l : List ValueType). made ++ encoded_all l (drop i values)) (drop_of_length-le types {i = i} end) ∙ append-nil made) ∙ h

-- values of bits so far, and of those that are left

pub decoded_next : (types : List ValueType) (rest more : List Bool) (i : ℕ) (t : ValueType) (v : Value) (made new whole : List Value) → i < length types → t ≡ get_or types i t →
    v ≡ value_of_bits t (take (width_of t) rest) → more ≡ drop (width_of t) rest → new ≡ made ++ v ∷ [] →
    made ++ decoded_all (drop i types) rest ≡ whole → new ++ decoded_all (drop (i + 1) types) more ≡ whole
decoded_next types rest more i t v made new whole lt is v_is more_is made_is h =
    (λ j. made_is j ++ decoded_all (drop (i + 1) types) (more_is j))
    ∙ append_assoc made (v ∷ []) (decoded_all (drop (i + 1) types) (drop (width_of t) rest))
    ∙ (λ j. made ++ v_is j ∷ decoded_all (drop (i + 1) types) (drop (width_of t) rest))
    ∙ sym (ap (λ (l : List ValueType). made ++ decoded_all l rest) (next_left types i t lt is)) ∙ h

pub decoded_done : (types : List ValueType) (rest : List Bool) (i : ℕ) (made whole : List Value) → length types ≤ i → made ++ decoded_all (drop i types) rest ≡ whole → made ≡ whole
decoded_done types rest i made whole end h =
    sym (ap (λ (l : List ValueType). made ++ decoded_all l rest) (drop_of_length-le types {i = i} end) ∙ append-nil made) ∙ h

-- a range and one number more
pub range_more : (start n : ℕ) (made : List ℕ) (k : ℕ) → made ≡ range_with_len start n → k ≡ start + n → made ++ k ∷ [] ≡ range_with_len start (n + 1)
range_more start n made k made_is k_is =
    ap (λ (l : List ℕ). l ++ k ∷ []) made_is ∙ ap (λ j. range_with_len start n ++ j ∷ []) k_is
    ∙ ap (λ (l : List ℕ). l ++ (start + n) ∷ []) (sym (map-id (range_with_len start n)))
    ∙ sym (map-range_with_len_more (λ (i : ℕ). i) start n (start + n) refl)
    ∙ map-id (range_with_len start (n + 1))

-- widths of types are at most 128

pub counted_width : (t : ValueType) (n : ℕ) → discrete_count t ≡ Some n → least_bits n ≡ width_of t
counted_width type.Boolean n e = absurd cc
counted_width (type.Word s w) n e = absurd cc
counted_width (type.Range low high) n e = let is : count (type.Range low high) ≡ n = cc in ap least_bits (sym is)
counted_width (type.Enumeration es) n e = let is : length es ≡ n = cc in ap least_bits (sym is)

pub few_bits : (n : ℕ) → n < 2 ^ 64 → least_bits n ≤ 128
few_bits n l = let h = least_bits-le n 64 (omega (arith, l)) in omega (arith, h)

pub word_width : (t : ValueType) → discrete_count t ≡ None → is_type t ≡ true → width_of t ≤ 128
word_width type.Boolean e h = omega arith
word_width (type.Word s w) e h = grind arith
word_width (type.Range low high) e h = absurd cc
word_width (type.Enumeration es) e h = absurd cc

-- what is no value is none
pub none_of : {A : Type 0} (o : Option A) → ((x : A) → o ≡ Some x → ⊥) → o ≡ None
none_of None h = refl
none_of (Some x) h = absurd (h x refl)
