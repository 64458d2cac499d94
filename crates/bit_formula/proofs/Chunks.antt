-- Values of bits that stand one after the other.
use Rattle.std.proofs.Common.{◌≡◌, ◌∙◌, ℕ, zero, suc, ◌+◌, ◌<◌, ◌==◌, Bool, true, false, ◌&&◌, ◌||◌, cond, List, [], ◌∷◌, ◌++◌, length, map, take, drop, slice_get, Some, refl, sym, ap, subst, arith, append_assoc}
use Rattle.std.specs.Prelude.{slice_index_or}
use Rattle.std.specs.List.{flat_map, range_with_len}
use Rattle.std.proofs.Math.Seq.{take-append_seam, drop-append_seam}
use Rattle.std.proofs.lemmas.Bool.{and_parts, eqb-true}
use Rattle.std.proofs.lemmas.List.{get_or-append-add, get_or_append_left, length-append, map-append}
use Rattle.smv_value.specs.declared.value.Value.{Value}
use Rattle.smv_value.specs.declared.value.Value.TheVariants as value
use Rattle.value_types.specs.declared.value_type.ValueType.{ValueType}
use Rattle.value_types.specs.Types.{is_of_type}
use Rattle.bit_values.specs.Bits.{encoded, value_of_bits, width_of}
use Rattle.bit_states.specs.Values.{decoded_all, encoded_all, width_of_all}
use Rattle.bit_states.proofs.Codes.{codes_at}
use Rattle.bit_states.proofs.OfValues.{are_of}
use Rattle.bit_formula.specs.Coding.{is_in, start_in, type_at}

-- the values of bits, of each type those that f gives its number
abbrev pub valued : List ValueType → (ℕ → List Bool) → ℕ → List Value
valued [] f start = []
valued (t ∷ types) f start = value_of_bits t (f start) ∷ valued types f (start + 1)

-- as many bits for each as its type has
abbrev pub AreWide : {A : Type 0} → List ValueType → (ℕ → List A) → ℕ → Type 0
AreWide types f start = (k : ℕ) → k < length types → length (f (start + k)) ≡ width_of (type_at types k)

first_at : {A : Type 0} (f : ℕ → A) (start : ℕ) → f (start + 0) ≡ f start
first_at f start = ap f (let e : start + 0 ≡ start = omega arith in e)

next_at : {A : Type 0} (f : ℕ → A) (start k : ℕ) → f (start + suc k) ≡ f ((start + 1) + k)
next_at f start k = ap f (let e : start + suc k ≡ (start + 1) + k = omega arith in e)

pub decoded_chunks : (types : List ValueType) (f : ℕ → List Bool) (start : ℕ) → AreWide types f start → decoded_all types (flat_map f (range_with_len start (length types))) ≡ valued types f start
decoded_chunks [] f start wide = refl
decoded_chunks (t ∷ types) f start wide =
    let xs = f start in
    let ys = flat_map f (range_with_len (start + 1) (length types)) in
    let long : length xs ≡ width_of t = ap length (sym (first_at f start)) ∙ wide 0 (omega arith) in
    let first : take (width_of t) (xs ++ ys) ≡ xs = subst (λ n. take n (xs ++ ys) ≡ xs) long (take-append_seam xs ys) in
    let rest : drop (width_of t) (xs ++ ys) ≡ ys = subst (λ n. drop n (xs ++ ys) ≡ ys) long (drop-append_seam xs ys) in
    (λ i. value_of_bits t (first i) ∷ decoded_all types (rest i))
    ∙ ap (λ (vs : List Value). value_of_bits t xs ∷ vs)
    (decoded_chunks types f (start + 1) (λ k lt. ap length (sym (next_at f start k)) ∙ wide (suc k) (omega (arith, lt))))

pub long_chunks : {A : Type 0} (types : List ValueType) (f : ℕ → List A) (start : ℕ) → AreWide types f start → length (flat_map f (range_with_len start (length types))) ≡ width_of_all types
long_chunks [] f start wide = refl
long_chunks (t ∷ types) f start wide =
    let long : length (f start) ≡ width_of t = ap length (sym (first_at f start)) ∙ wide 0 (omega arith) in
    let rest = long_chunks types f (start + 1) (λ k lt. ap length (sym (next_at f start k)) ∙ wide (suc k) (omega (arith, lt))) in
    length-append (f start) (flat_map f (range_with_len (start + 1) (length types))) ∙ omega (arith, long, rest)

pub map-flat_map : {A B C : Type 0} (h : B → C) (f : A → List B) (xs : List A) → map h (flat_map f xs) ≡ flat_map (λ x. map h (f x)) xs
map-flat_map h f [] = refl
map-flat_map h f (x ∷ xs) = map-append h (f x) (flat_map f xs) ∙ ap (λ ys. map h (f x) ++ ys) (map-flat_map h f xs)

-- the values one by one

pub value_in : (types : List ValueType) (f : ℕ → List Bool) (start k : ℕ) → k < length types → slice_get (valued types f start) k ≡ Some (value_of_bits (type_at types k) (f (start + k)))
value_in [] f start k lt = absurd (let no : ⊥ = omega (arith, lt) in no)
value_in (t ∷ types) f start zero lt = ap (λ bits. Some (value_of_bits t bits)) (sym (first_at f start))
value_in (t ∷ types) f start (suc k) lt =
    value_in types f (start + 1) k (omega (arith, lt)) ∙ ap (λ bits. Some (value_of_bits (type_at types k) bits)) (sym (next_at f start k))

pub long_valued : (types : List ValueType) (f : ℕ → List Bool) (start : ℕ) → length (valued types f start) ≡ length types
long_valued [] f start = refl
long_valued (t ∷ types) f start = ap suc (long_valued types f (start + 1))

pub valued_is : (types : List ValueType) (f : ℕ → List Bool) (start : ℕ) (u : List Value) → length types ≡ length u
    → ((k : ℕ) → k < length types → value_of_bits (type_at types k) (f (start + k)) ≡ slice_index_or u k (value.Bool false)) → valued types f start ≡ u
valued_is [] f start [] long each = refl
valued_is [] f start (v ∷ u) long each = absurd (let no : ⊥ = omega (arith, long) in no)
valued_is (t ∷ types) f start [] long each = absurd (let no : ⊥ = omega (arith, long) in no)
valued_is (t ∷ types) f start (v ∷ u) long each =
    let here : value_of_bits t (f start) ≡ v = ap (value_of_bits t) (sym (first_at f start)) ∙ each 0 (omega arith) in
    let rest : valued types f (start + 1) ≡ u =
    valued_is types f (start + 1) u (omega (arith, long)) (λ k lt. ap (value_of_bits (type_at types k)) (sym (next_at f start k)) ∙ each (suc k) (omega (arith, lt))) in
    λ i. here i ∷ rest i

pub valued_typed : (types : List ValueType) (f : ℕ → List Bool) (start : ℕ) → ((k : ℕ) → k < length types → is_of_type (value_of_bits (type_at types k) (f (start + k))) (type_at types k) ≡ true)
    → are_of types (valued types f start) ≡ true
valued_typed [] f start each = refl
valued_typed (t ∷ types) f start each =
    let here : is_of_type (value_of_bits t (f start)) t ≡ true = ap (λ bits. is_of_type (value_of_bits t bits) t) (sym (first_at f start)) ∙ each 0 (omega arith) in
    let rest : are_of types (valued types f (start + 1)) ≡ true =
    valued_typed types f (start + 1) (λ k lt.
    ap (λ bits. is_of_type (value_of_bits (type_at types k) bits) (type_at types k)) (sym (next_at f start k)) ∙ each (suc k) (omega (arith, lt))) in
    λ i. here i && rest i

-- a value is of its type
pub typed_at : (types : List ValueType) (u : List Value) (k : ℕ) → are_of types u ≡ true → length types ≡ length u → k < length types
    → is_of_type (slice_index_or u k (value.Bool false)) (type_at types k) ≡ true
typed_at [] u k h long lt = absurd (let no : ⊥ = omega (arith, lt) in no)
typed_at (t ∷ types) [] k h long lt = absurd (let no : ⊥ = omega (arith, long) in no)
typed_at (t ∷ types) (v ∷ u) zero h long lt = (and_parts (is_of_type v t) (are_of types u) h).0
typed_at (t ∷ types) (v ∷ u) (suc k) h long lt = typed_at types u k (and_parts (is_of_type v t) (are_of types u) h).1 (omega (arith, long)) (omega (arith, lt))

-- bits elsewhere

pub moved_map : {A : Type 0} (x y : ℕ → A) (a b n : ℕ) → ((i : ℕ) → i < n → x (a + i) ≡ y (b + i)) → map x (range_with_len a n) ≡ map y (range_with_len b n)
moved_map x y a b zero same = refl
moved_map x y a b (suc n) same =
    let here : x a ≡ y b = sym (first_at x a) ∙ same 0 (omega arith) ∙ first_at y b in
    let rest : map x (range_with_len (a + 1) n) ≡ map y (range_with_len (b + 1) n) =
    moved_map x y (a + 1) (b + 1) n (λ i lt. sym (next_at x a i) ∙ same (suc i) (omega (arith, lt)) ∙ next_at y b i) in
    λ i. here i ∷ rest i

-- the bits of values of some numbers, one after the other
module _ (types : List ValueType) (of : ℕ → Value) (wide : (k : ℕ) (v : Value) → length (encoded (type_at types k) v) ≡ width_of (type_at types k)) where
  abbrev code : List ℕ → List Bool
  code ns = encoded_all (map (type_at types) ns) (map of ns)

  abbrev part : List Bool → ℕ → ℕ → List Bool
  part bits start k = map (λ i. slice_index_or bits i false) (range_with_len start (width_of (type_at types k)))

  coded_step : (n : ℕ) (ns : List ℕ) (k : ℕ) (b : Bool) → (n == k) ≡ b → (b || is_in ns k) ≡ true → (is_in ns k ≡ true → part (code ns) (start_in types ns k) k ≡ encoded (type_at types k) (of k))
      → part (encoded (type_at types n) (of n) ++ code ns) (cond b 0 (width_of (type_at types n) + start_in types ns k)) k ≡ encoded (type_at types k) (of k)
  coded_step n ns k true e h rest =
      let same : n ≡ k = eqb-true n k e in
      let first = encoded (type_at types k) (of k) in
      let w = width_of (type_at types k) in
      let long : length first ≡ w = wide k (of k) in
      ap (λ j. part (encoded (type_at types j) (of j) ++ code ns) 0 k) same
      ∙ moved_map (λ i. slice_index_or (first ++ code ns) i false) (λ i. slice_index_or first i false) 0 0 w (λ i lt. get_or_append_left first (code ns) false (0 + i) (omega (arith, lt, long)))
      ∙ codes_at first w long
  coded_step n ns k false e h rest =
      let first = encoded (type_at types n) (of n) in
      let w = width_of (type_at types n) in
      let start = start_in types ns k in
      let long : length first ≡ w = wide n (of n) in
      moved_map (λ i. slice_index_or (first ++ code ns) i false) (λ i. slice_index_or (code ns) i false) (w + start) start (width_of (type_at types k)) (λ i lt.
      ap (λ j. slice_index_or (first ++ code ns) j false) (let z : (w + start) + i ≡ length first + (start + i) = omega (arith, long) in z)
      ∙ get_or-append-add first (code ns) (start + i) false)
      ∙ rest h

  pub coded_in : (ns : List ℕ) (k : ℕ) → is_in ns k ≡ true → part (code ns) (start_in types ns k) k ≡ encoded (type_at types k) (of k)
  coded_in [] k h = cc
  coded_in (n ∷ ns) k h = coded_step n ns k (n == k) refl h (coded_in ns k)

pub encoded_both : (types more : List ValueType) (s t : List Value) → length types ≡ length s → encoded_all (types ++ more) (s ++ t) ≡ encoded_all types s ++ encoded_all more t
encoded_both [] more [] t long = refl
encoded_both [] more (v ∷ s) t long = absurd (let no : ⊥ = omega (arith, long) in no)
encoded_both (u ∷ types) more [] t long = absurd (let no : ⊥ = omega (arith, long) in no)
encoded_both (u ∷ types) more (v ∷ s) t long =
    ap (λ bits. encoded u v ++ bits) (encoded_both types more s t (omega (arith, long))) ∙ sym (append_assoc (encoded u v) (encoded_all types s) (encoded_all more t))
