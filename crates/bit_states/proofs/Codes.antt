-- States and inputs and their bits go to one another.
use Rattle.std.proofs.Common.{◌≡◌, ◌∙◌, ℕ, zero, suc, ◌+◌, ◌<◌, ◌==◌, Bool, true, false, not, ◌&&◌, List, [], ◌∷◌, length, map, get_or, refl, sym, ap, subst, arith, eq-eqb}
use Rattle.std.specs.Prelude.{slice_index_or}
use Rattle.std.specs.List.{filter, range_with_len}
use Rattle.std.proofs.lemmas.Bool.{and_parts, eqb-true}
use Rattle.std.proofs.lemmas.List.FromFn.{get_or-map-range_with_len, length-map-range_with_len}
use Rattle.smv_tree.specs.declared.tree.Program.{Program}
use Rattle.smv_value.specs.declared.value.Value.{Value}
use Rattle.value_types.specs.declared.value_type.ValueType.{ValueType}
use Rattle.smv_slots.specs.Slots.{is_input, slots_of}
use Rattle.smv_slots.specs.declared.slot.Slot.{Slot}
use Rattle.smv_slots.specs.Slots.{types_of}
use Rattle.smv_meaning.specs.Runs.{fits}
use Rattle.bit_states.specs.Values.{are_codes, decoded_all, encoded_all, width_of_all}
use Rattle.bit_states.specs.Layouts.{HasTypes, input_types, input_width, state_types, state_width, type_of_slot}
use Rattle.bit_states.specs.Coding.{IsCoding, code_of}
use Rattle.bit_states.proofs.OfValues.{are_of, are_types, decoded_encoded, encoded_decoded, length_all, length_decoded, typed_codes}
use Rattle.bit_states.proofs.OfSlots.{fits_are, slot_types, slots_typed}

-- bits from a number on, one by one

pub same_map : (x y : ℕ → Bool) (start w : ℕ) → ((i : ℕ) → i < w → x (start + i) ≡ y (start + i)) → map x (range_with_len start w) ≡ map y (range_with_len start w)
same_map x y start zero same = refl
same_map x y start (suc w) same =
    let here : x start ≡ y start = ap x (let e : start ≡ start + 0 = omega arith in e) ∙ same 0 (omega arith) ∙ ap y (let e : start + 0 ≡ start = omega arith in e) in
    let rest : map x (range_with_len (start + 1) w) ≡ map y (range_with_len (start + 1) w) =
    same_map x y (start + 1) w (λ i lt.
    ap x (let e : (start + 1) + i ≡ start + suc i = omega arith in e) ∙ same (suc i) (omega (arith, lt)) ∙ ap y (let e : start + suc i ≡ (start + 1) + i = omega arith in e)) in
    λ i. here i ∷ rest i

pub same_at : (x y : ℕ → Bool) (start w i : ℕ) → map x (range_with_len start w) ≡ map y (range_with_len start w) → i < w → x (start + i) ≡ y (start + i)
same_at x y start w i e lt =
    sym (get_or-map-range_with_len x start w i (start + i) false lt refl)
    ∙ ap (λ (l : List Bool). get_or l i false) e
    ∙ get_or-map-range_with_len y start w i (start + i) false lt refl

-- the bits of a list
list_at : (xs : List Bool) (start : ℕ) (x : ℕ → Bool) → ((k : ℕ) → k < length xs → x (start + k) ≡ slice_index_or xs k false) → map x (range_with_len start (length xs)) ≡ xs
list_at [] start x at = refl
list_at (b ∷ xs) start x at =
    let here : x start ≡ b = ap x (let e : start ≡ start + 0 = omega arith in e) ∙ at 0 (omega arith) in
    let rest : map x (range_with_len (start + 1) (length xs)) ≡ xs =
    list_at xs (start + 1) x (λ k lt. ap x (let e : (start + 1) + k ≡ start + suc k = omega arith in e) ∙ at (suc k) (omega (arith, lt))) in
    λ i. here i ∷ rest i

plain : (k : ℕ) → 0 + k ≡ k
plain k = omega arith

pub codes_at : (xs : List Bool) (w : ℕ) → length xs ≡ w → map (λ k. slice_index_or xs k false) (range_with_len 0 w) ≡ xs
codes_at xs w e =
    subst (λ n. map (λ k. slice_index_or xs k false) (range_with_len 0 n) ≡ xs) e
    (list_at xs 0 (λ k. slice_index_or xs k false) (λ k lt. ap (λ j. slice_index_or xs j false) (plain k)))

-- slots of a program, some of them, and their types
module _ (p : Program) (has : HasTypes p) (keep : Slot → Bool) where
  abbrev some_slots : List Slot
  some_slots = filter keep (slots_of p)

  abbrev some_types : List ValueType
  some_types = map (type_of_slot (types_of p)) some_slots

  abbrev do_fit : List Value → Bool
  do_fit s = fits (types_of p) some_slots s

  are : are_types some_types ≡ true
  are = slot_types (types_of p) some_slots has

  apart : (s : List Value) → do_fit s ≡ true → (length some_types ≡ length s) × (are_of some_types s ≡ true)
  apart s is =
      let both = and_parts (length some_types == length s) (are_of some_types s) (sym (fits_are (types_of p) some_slots s (slots_typed p keep)) ∙ is) in
      (eqb-true (length some_types) (length s) both.0, both.1)

  -- as many bits as the types have
  pub long_code : (s : List Value) → do_fit s ≡ true → length (encoded_all some_types s) ≡ width_of_all some_types
  long_code s is = length_all some_types s are (apart s is).0

  pub values_back : (s : List Value) (bits : List Bool) → do_fit s ≡ true → bits ≡ encoded_all some_types s → decoded_all some_types bits ≡ s
  values_back s bits is e = ap (decoded_all some_types) e ∙ decoded_encoded some_types s are (apart s is).0 (apart s is).1

  -- bits are values of the slots just where they are codes
  pub fitting : (bits : List Bool) → length bits ≡ width_of_all some_types → do_fit (decoded_all some_types bits) ≡ are_codes some_types bits
  fitting bits l =
      let long : length some_types ≡ length (decoded_all some_types bits) = sym (length_decoded some_types bits) in
      fits_are (types_of p) some_slots (decoded_all some_types bits) (slots_typed p keep)
      ∙ ap (λ b. b && are_of some_types (decoded_all some_types bits)) (eq-eqb (length some_types) (length (decoded_all some_types bits)) long)
      ∙ typed_codes some_types bits are l

  bits_back : (bits : List Bool) → length bits ≡ width_of_all some_types → do_fit (decoded_all some_types bits) ≡ true → encoded_all some_types (decoded_all some_types bits) ≡ bits
  bits_back bits l is = encoded_decoded some_types bits are l (sym (fitting bits l) ∙ is)

  -- values of the slots are of one list of bits
  pub one_list : (xs ys : List Bool) → length xs ≡ width_of_all some_types → length ys ≡ width_of_all some_types →
      do_fit (decoded_all some_types xs) ≡ true → decoded_all some_types xs ≡ decoded_all some_types ys → xs ≡ ys
  one_list xs ys l m is e =
      sym (bits_back xs l is) ∙ ap (encoded_all some_types) e ∙ bits_back ys m (sym (ap (λ (s : List Value). do_fit s) e) ∙ is)

-- the slots of a state, and those of inputs
abbrev pub of_states : Slot → Bool
of_states slot = not (is_input slot.kind)

abbrev pub of_inputs : Slot → Bool
of_inputs slot = is_input slot.kind

long_at : (x : ℕ → Bool) (start w : ℕ) → length (map x (range_with_len start w)) ≡ w
long_at x start w = length-map-range_with_len x start w

pub coding : (p : Program) → HasTypes p → IsCoding p
coding p has =
    let w = state_width p in
    let n = input_width p in
    record {
      back = λ s is. values_back p has of_states s (map (code_of p s) (range_with_len 0 w)) is (codes_at (encoded_all (state_types p) s) w (long_code p has of_states s is));
      one_code = λ x y is same k lt.
          let agree : map x (range_with_len 0 w) ≡ map y (range_with_len 0 w) =
          one_list p has of_states (map x (range_with_len 0 w)) (map y (range_with_len 0 w)) (long_at x 0 w) (long_at y 0 w) is same in
          ap x (sym (plain k)) ∙ same_at x y 0 w k agree lt ∙ ap y (plain k);
      own_bits = λ x y same.
          ap (decoded_all (state_types p)) (same_map x y 0 w (λ i lt. ap x (plain i) ∙ same i lt ∙ ap y (sym (plain i))));
      states = λ x. fitting p has of_states (map x (range_with_len 0 w)) (long_at x 0 w);
      given_next = λ s x is at. values_back p has of_states s (map x (range_with_len w w)) is at;
      one_next = λ x y is same. one_list p has of_states (map x (range_with_len w w)) (map y (range_with_len w w)) (long_at x w w) (long_at y w w) is same;
      next_states = λ x. fitting p has of_states (map x (range_with_len w w)) (long_at x w w);
      given = λ u x is at. values_back p has of_inputs u (map x (range_with_len (w + w) n)) is at;
      one_given = λ x y is same.
          one_list p has of_inputs (map x (range_with_len (w + w) n)) (map y (range_with_len (w + w) n)) (long_at x (w + w) n) (long_at y (w + w) n) is same;
      own_inputs = λ x y same. ap (decoded_all (input_types p)) same;
      inputs = λ x. fitting p has of_inputs (map x (range_with_len (w + w) n)) (long_at x (w + w) n);
    }
