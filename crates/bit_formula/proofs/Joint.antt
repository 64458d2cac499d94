-- The bits of states with inputs and of steps between them.
use Rattle.std.proofs.Common.{◌≡◌, ◌∙◌, ℕ, zero, suc, ◌+◌, ◌*◌, ◌<◌, ◌≤◌, ◌==◌, Bool, true, false, not, ◌&&◌, cond, List, [], ◌∷◌, ◌++◌, All, length, map, get_or, slice_get, Some, None, refl, sym, ap, subst, arith, inl, inr}
use Rattle.std.specs.Prelude.{nat_lt, slice_index_or}
use Rattle.std.specs.List.{flat_map, range_with_len}
use Rattle.std.proofs.lemmas.Bool.{and_parts, cases_Bool, cases_lt, eq-eqb, eqb-true, le-ltb, lt-ltb}
use Rattle.std.proofs.Math.ListN.{get_or-eq_default}
use Rattle.std.proofs.lemmas.List.{get_or-append-add, get_or_append_left, get_or_default}
use Rattle.std.proofs.lemmas.List.Elements.{All-append, All-head, All-nil, All-tail}
use Rattle.std.proofs.lemmas.List.FromFn.{length-map-range_with_len, length-range_with_len}
use Rattle.std.proofs.lemmas.Option.{get_or_from_slice_get, slice_get-get_or, slice_get_past}
use Rattle.clause_core.specs.Assignments.{Agrees}
use Rattle.smv_tree.specs.declared.tree.Program.{Program}
use Rattle.smv_value.specs.declared.value.Value.{Value}
use Rattle.smv_value.specs.declared.value.Value.TheVariants as value
use Rattle.smv_slots.specs.Slots.{slots_of}
use Rattle.smv_slots.specs.Slots.{types_of}
use Rattle.smv_meaning.specs.Runs.{are_inputs, input_slots, is_first_state, is_state, is_step, state_slots}
use Rattle.value_types.specs.declared.value_type.ValueType.{ValueType}
use Rattle.value_types.specs.declared.value_type.ValueType.TheVariants as type
use Rattle.value_types.specs.Types.{is_of_type, is_type}
use Rattle.value_types.specs.Codes.{count}
use Rattle.value_types.proofs.Coding.{coding}
use Rattle.bit_arith.specs.Number.{bit, number}
use Rattle.bit_values.specs.Bits.{encoded, is_code, value_of_bits, width_of}
use Rattle.bit_values.proofs.OfBits.{bits_are}
use Rattle.bit_states.specs.Coding.{decoded}
use Rattle.bit_states.specs.Layouts.{HasTypes, input_types, state_types, state_width}
use Rattle.bit_states.specs.Values.{decoded_all, encoded_all, width_of_all}
use Rattle.bit_states.proofs.Codes.{codes_at, long_code, of_inputs, of_states, same_map, values_back}
use Rattle.bit_states.proofs.OfSlots.{fits_are, slot_types, slots_typed}
use Rattle.bit_states.proofs.OfValues.{are_of, are_types}
use Rattle.bit_states.proofs.Walking.{of_all}
use Rattle.bit_formula.specs.Agreeing.{IsJointCoding}
use Rattle.bit_formula.specs.Coding.{all_places, input_count, inputs_in, is_in, joint_code, joint_named, joint_width, joined_width, kept_below, next_in, others, places_by, read_inputs, read_next, start_by, start_in, state_in, type_at, values_at, width_at}
use Rattle.bit_formula.specs.Reading.{AgreeOn}
use Rattle.bit_formula.specs.Standing.{is_first_at, is_step_at}
use Rattle.bit_formula.proofs.Chunks.{coded_in, decoded_chunks, encoded_both, long_chunks, long_valued, map-flat_map, moved_map, typed_at, value_in, valued, valued_is, valued_typed}
use Rattle.bit_formula.proofs.Numbers.{in_at, in_below, place_of}
use Rattle.bit_formula.proofs.Starts.{start_inside}

pub plain : (k : ℕ) → 0 + k ≡ k
plain k = omega arith

-- inputs of a program that are as many, each of its type
module _ (p : Program) (has : HasTypes p) where
  abbrev types : List ValueType
  types = input_types p

  are : are_types types ≡ true
  are = slot_types (types_of p) (input_slots (slots_of p)) has

  pub type_is : (k : ℕ) → is_type (type_at types k) ≡ true
  type_is k = elim (cases_lt k (length types)) [
    | inl lt ↦ of_all is_type types k (type_at types k) are lt (get_or_default types k type.Boolean (type_at types k) lt)
    | inr past ↦ ap is_type (get_or-eq_default types type.Boolean {n = k} past)
  ]

  pub wide : (k : ℕ) (v : Value) → length (encoded (type_at types k) v) ≡ width_of (type_at types k)
  wide k v = (bits_are (type_at types k) (type_is k)).width v

  pub inputs_apart : (u : List Value) → are_inputs p u ≡ true → (length types ≡ length u) × (are_of types u ≡ true)
  inputs_apart u is =
      let both = and_parts (length types == length u) (are_of types u) (sym (fits_are (types_of p) (input_slots (slots_of p)) u (slots_typed p of_inputs)) ∙ is) in
      (eqb-true (length types) (length u) both.0, both.1)

  pub inputs_joined : (u : List Value) → length types ≡ length u → are_of types u ≡ true → are_inputs p u ≡ true
  inputs_joined u long each =
      fits_are (types_of p) (input_slots (slots_of p)) u (slots_typed p of_inputs) ∙ ap (λ b. b && are_of types u) (eq-eqb (length types) (length u) long) ∙ each

  pub input_typed : (u : List Value) → are_inputs p u ≡ true → (k : ℕ) → k < length types → is_of_type (slice_index_or u k (value.Bool false)) (type_at types k) ≡ true
  input_typed u is k lt = let apart = inputs_apart u is in typed_at types u k apart.1 apart.0 lt

  states_apart : (s : List Value) → is_state p s ≡ true → length (state_types p) ≡ length s
  states_apart s is =
      let S = state_types p in
      eqb-true (length S) (length s) (and_parts (length S == length s) (are_of S s) (sym (fits_are (types_of p) (state_slots (slots_of p)) s (slots_typed p of_states)) ∙ is)).0

-- bits that are kept

pub kept_is : (m : ℕ) (x : ℕ → Bool) (k : ℕ) → k < m → kept_below m x k ≡ x k
kept_is m x k lt = ap (λ (b : Bool). cond b (x k) false) (lt-ltb k m lt)

pub kept_none : (m : ℕ) (x : ℕ → Bool) (k : ℕ) → m ≤ k → kept_below m x k ≡ false
kept_none m x k le = ap (λ (b : Bool). cond b (x k) false) (le-ltb k m le)

pub kept_same : (m : ℕ) (a b : ℕ → Bool) → Agrees m a b → kept_below m a ≡ kept_below m b
kept_same m a b agrees =
    let each : (k : ℕ) → kept_below m a k ≡ kept_below m b k =
    λ k. elim (cases_lt k m) [
      | inl lt ↦ kept_is m a k lt ∙ agrees k lt ∙ sym (kept_is m b k lt)
      | inr le ↦ kept_none m a k le ∙ sym (kept_none m b k le)
    ] in
    λ i. λ k. each k i

-- past the end they are the number 0
number_none : (m : ℕ) (x : ℕ → Bool) (start n : ℕ) → m ≤ start → number (λ b. b) (map (kept_below m x) (range_with_len start n)) ≡ 0
number_none m x start zero le = refl
number_none m x start (suc n) le =
    let rest = number_none m x (start + 1) n (omega (arith, le)) in
    ap (λ b. bit b + 2 * number (λ c. c) (map (kept_below m x) (range_with_len (start + 1) n))) (kept_none m x start le) ∙ omega (arith, rest)

-- numbers that are below a bound

pub range_below : (n start end : ℕ) → start + n ≤ end → All (λ i. i < end) (range_with_len start n)
range_below zero start end h j d lt = absurd (let none : ⊥ = omega (arith, lt) in none)
range_below (suc n) start end h zero d lt = omega (arith, h)
range_below (suc n) start end h (suc j) d lt = range_below n (start + 1) end (omega (arith, h)) j d (omega (arith, lt))

module _ (types : List ValueType) (width : ℕ) (reads : List ℕ) where
  abbrev joint : ℕ
  joint = joined_width types width reads

  abbrev end : ℕ
  end = joint + joint + width_at types (others (length types) reads)

  abbrev wide_at : ℕ → ℕ
  wide_at k = width_of (type_at types k)

  pub start_is_read : (k : ℕ) → is_in reads k ≡ true → start_by types width reads k ≡ width + start_in types reads k
  start_is_read k on = ap (λ (b : Bool). cond b (width + start_in types reads k) ((joint + joint) + start_in types (others (length types) reads) k)) on

  pub start_is_other : (k : ℕ) → is_in reads k ≡ false → start_by types width reads k ≡ (joint + joint) + start_in types (others (length types) reads) k
  start_is_other k off = ap (λ (b : Bool). cond b (width + start_in types reads k) ((joint + joint) + start_in types (others (length types) reads) k)) off

  in_others : (k : ℕ) → k < length types → is_in reads k ≡ false → is_in (others (length types) reads) k ≡ true
  in_others k lt off = in_below (λ j. not (is_in reads j)) (length types) k lt ∙ ap not off

  -- the bits of an input end before the end
  start_below : (k : ℕ) → k < length types → start_by types width reads k + wide_at k ≤ end
  start_below k lt = elim (cases_Bool (is_in reads k)) [
    | inl on ↦ omega (arith, start_is_read k on, start_inside types reads k on)
    | inr off ↦ omega (arith, start_is_other k off, start_inside types (others (length types) reads) k (in_others k lt off))
  ]

  below_from : (start n : ℕ) → start + n ≤ length types → All (λ i. i < end) (flat_map (places_by types width reads) (range_with_len start n))
  below_from start zero le = All-nil (λ i. i < end)
  below_from start (suc n) le =
      All-append (λ i. i < end) (places_by types width reads start) (flat_map (places_by types width reads) (range_with_len (start + 1) n))
      (range_below (wide_at start) (start_by types width reads start) end (start_below start (omega (arith, le)))) (below_from (start + 1) n (omega (arith, le)))

  pub places_below : All (λ i. i < end) (all_places types width reads)
  places_below = below_from 0 (length types) (omega arith)

  -- the bits of each input
  abbrev pub chunk : (ℕ → Bool) → ℕ → List Bool
  chunk x k = map x (places_by types width reads k)

  chunk_wide : (x : ℕ → Bool) (k : ℕ) → k < length types → length (chunk x (0 + k)) ≡ wide_at k
  chunk_wide x k lt = length-map-range_with_len x (start_by types width reads (0 + k)) (wide_at (0 + k)) ∙ ap wide_at (plain k)

  pub long_places : length (all_places types width reads) ≡ width_of_all types
  long_places = long_chunks types (places_by types width reads) 0 (λ k lt. length-range_with_len (start_by types width reads (0 + k)) (wide_at (0 + k)) ∙ ap wide_at (plain k))

  pub chunks : (x : ℕ → Bool) → decoded types (all_places types width reads) x ≡ valued types (chunk x) 0
  chunks x = ap (decoded_all types) (map-flat_map x (places_by types width reads) (range_with_len 0 (length types))) ∙ decoded_chunks types (chunk x) 0 (chunk_wide x)

  pub value_there : (x : ℕ → Bool) (k : ℕ) → k < length types → slice_get (decoded types (all_places types width reads) x) k ≡ Some (value_of_bits (type_at types k) (chunk x k))
  value_there x k lt =
      ap (λ (us : List Value). slice_get us k) (chunks x) ∙ value_in types (chunk x) 0 k lt ∙ ap (λ j. Some (value_of_bits (type_at types k) (chunk x j))) (plain k)

  pub value_past : (x : ℕ → Bool) (k : ℕ) → length types ≤ k → slice_get (decoded types (all_places types width reads) x) k ≡ None
  value_past x k le =
      let long = ap length (chunks x) ∙ long_valued types (chunk x) 0 in
      slice_get_past (decoded types (all_places types width reads) x) k (omega (arith, le, long))

  -- of those that are read
  pub chunk_read : (x : ℕ → Bool) (k : ℕ) → is_in reads k ≡ true → chunk x k ≡ map x (range_with_len (width + start_in types reads k) (wide_at k))
  chunk_read x k on = ap (λ j. map x (range_with_len j (wide_at k))) (start_is_read k on)

  pub chunk_other : (x : ℕ → Bool) (k : ℕ) → is_in reads k ≡ false → chunk x k ≡ map x (range_with_len ((joint + joint) + start_in types (others (length types) reads) k) (wide_at k))
  chunk_other x k off = ap (λ j. map x (range_with_len j (wide_at k))) (start_is_other k off)

  pub chunk_same : (x y : ℕ → Bool) (k : ℕ) → is_in reads k ≡ true → Agrees joint x y → chunk x k ≡ chunk y k
  chunk_same x y k on agrees =
      chunk_read x k on
      ∙ same_map x y (width + start_in types reads k) (wide_at k) (λ i lt. agrees (width + start_in types reads k + i) (omega (arith, lt, start_inside types reads k on)))
      ∙ sym (chunk_read y k on)

  pub chunk_kept : (x : ℕ → Bool) (k : ℕ) → is_in reads k ≡ true → chunk (kept_below joint x) k ≡ chunk x k
  chunk_kept x k on = chunk_same (kept_below joint x) x k on (λ i lt. kept_is joint x i lt)

  -- values that are read
  pub agreeing : (x : ℕ → Bool) → AgreeOn reads (decoded types (all_places types width reads) x) (decoded types (all_places types width reads) (kept_below joint x))
  agreeing x i lt =
      let k = get_or reads i 0 in
      elim (cases_lt k (length types)) [
        | inl below ↦
            value_there x k below ∙ ap (λ bits. Some (value_of_bits (type_at types k) bits)) (sym (chunk_kept x k (in_at reads i lt))) ∙ sym (value_there (kept_below joint x) k below)
        | inr past ↦ value_past x k past ∙ sym (value_past (kept_below joint x) k past)
      ]

-- the same bits at places that are below a bound
pub map_below : (m : ℕ) (a b : ℕ → Bool) (ks : List ℕ) → All (λ k. k < m) ks → Agrees m a b → map a ks ≡ map b ks
map_below m a b [] below agrees = refl
map_below m a b (k ∷ ks) below agrees =
    let here : a k ≡ b k = agrees k (All-head (λ j. j < m) k ks below) in
    let rest : map a ks ≡ map b ks = map_below m a b ks (All-tail (λ j. j < m) k ks below) agrees in
    λ i. here i ∷ rest i

module _ (p : Program) (reads : List ℕ) where
  abbrev T : List ValueType
  T = input_types p

  abbrev w : ℕ
  w = state_width p

  abbrev n : ℕ
  n = input_count p

  abbrev j : ℕ
  j = joint_width p reads

  pub state_same : (a b : ℕ → Bool) → Agrees j a b → state_in p reads a ≡ state_in p reads b
  state_same a b agrees = ap (decoded_all (state_types p)) (same_map a b 0 w (λ i lt. agrees (0 + i) (omega (arith, lt))))

  pub read_same : (a b : ℕ → Bool) → Agrees j a b → read_inputs p reads a ≡ read_inputs p reads b
  read_same a b agrees = ap (inputs_in p reads) (kept_same j a b agrees)

  pub read_agrees : (a : ℕ → Bool) → AgreeOn reads (inputs_in p reads a) (read_inputs p reads a)
  read_agrees a = agreeing T w reads a

  -- the same bits, the same step

  pub named_same : (a b : ℕ → Bool) → Agrees (joint_named p reads) a b → is_step_at p reads a ≡ is_step_at p reads b
  named_same a b agrees =
      let first : state_in p reads a ≡ state_in p reads b = state_same a b (λ i lt. agrees i (omega (arith, lt))) in
      let second : next_in p reads a ≡ next_in p reads b = ap (decoded_all (state_types p)) (same_map a b j w (λ i lt. agrees (j + i) (omega (arith, lt)))) in
      let inputs : inputs_in p reads a ≡ inputs_in p reads b = ap (decoded_all T) (map_below (joint_named p reads) a b (all_places T w reads) (places_below T w reads) agrees) in
      let read : read_next p reads a ≡ read_next p reads b = read_same (λ k. a (j + k)) (λ k. b (j + k)) (λ i lt. agrees (j + i) (omega (arith, lt))) in
      λ i. is_step p (first i) (inputs i) (second i) && are_inputs p (read i)

  pub first_same : (a b : ℕ → Bool) → Agrees j a b → is_first_at p reads a ≡ is_first_at p reads b
  first_same a b agrees = λ i. is_first_state p (state_same a b agrees i) && are_inputs p (read_same a b agrees i)

  -- the value of an input that is the same in both
  pub value_from : (x : ℕ → Bool) (u : List Value) → AgreeOn reads (read_inputs p reads x) u → (k : ℕ) → k < n → is_in reads k ≡ true
      → value_of_bits (type_at T k) (chunk T w reads x k) ≡ slice_index_or u k (value.Bool false)
  value_from x u agree k below on =
      let v = value_of_bits (type_at T k) (chunk T w reads (kept_below j x) k) in
      let at = place_of reads k on in
      let same : slice_get (read_inputs p reads x) k ≡ slice_get u k = subst (λ i. slice_get (read_inputs p reads x) i ≡ slice_get u i) at.1.there (agree at.0 at.1.inside) in
      ap (value_of_bits (type_at T k)) (sym (chunk_kept T w reads x k on))
      ∙ sym (get_or_from_slice_get u k v (value.Bool false) (sym same ∙ value_there T w reads (kept_below j x) k below))

  module _ (has : HasTypes p) where
    -- bits that are false are a value of a type that has one
    none_typed : (x : ℕ → Bool) (k start : ℕ) (v : Value) → j ≤ start → is_of_type v (type_at T k) ≡ true
        → is_of_type (value_of_bits (type_at T k) (map (kept_below j x) (range_with_len start (width_of (type_at T k))))) (type_at T k) ≡ true
    none_typed x k start v le of =
        let t = type_at T k in
        let bits = map (kept_below j x) (range_with_len start (width_of t)) in
        let some = (coding t (type_is p has k)).of_value v of in
        let below = some.1.below in
        let code : is_code t bits ≡ true = ap (λ c. nat_lt c (count t)) (number_none j x start (width_of t) le) ∙ lt-ltb 0 (count t) (omega (arith, below)) in
        (bits_are t (type_is p has k)).typed bits code

    read_typed : (x : ℕ → Bool) (u : List Value) → are_inputs p u ≡ true → AgreeOn reads (read_inputs p reads x) u → are_inputs p (read_inputs p reads x) ≡ true
    read_typed x u is agree =
        let y = kept_below j x in
        let of : List Value → Type 0 = λ us. are_of T us ≡ true in
        let long : n ≡ length (read_inputs p reads x) = sym (ap length (chunks T w reads y) ∙ long_valued T (chunk T w reads y) 0) in
        let each : (k : ℕ) → k < n → is_of_type (value_of_bits (type_at T k) (chunk T w reads y k)) (type_at T k) ≡ true =
        λ k lt. elim (cases_Bool (is_in reads k)) [
          | inl on ↦
              ap (λ v. is_of_type v (type_at T k)) (ap (value_of_bits (type_at T k)) (chunk_kept T w reads x k on) ∙ value_from x u agree k lt on) ∙ input_typed p has u is k lt
          | inr off ↦
              ap (λ bits. is_of_type (value_of_bits (type_at T k) bits) (type_at T k)) (chunk_other T w reads y k off)
              ∙ none_typed x k ((j + j) + start_in T (others n reads) k) (slice_index_or u k (value.Bool false)) (omega arith) (input_typed p has u is k lt)
        ] in
        inputs_joined p has (read_inputs p reads x) long
        (subst of (sym (chunks T w reads y))
        (valued_typed T (chunk T w reads y) 0 (λ k lt. ap (λ i. is_of_type (value_of_bits (type_at T k) (chunk T w reads y i)) (type_at T k)) (plain k) ∙ each k lt)))

    -- the code of a state and of inputs
    module _ (s u : List Value) (is : is_state p s ≡ true) where
      abbrev of : ℕ → Value
      of k = slice_index_or u k (value.Bool false)

      abbrev A : List Bool
      A = encoded_all (state_types p) s

      abbrev B : List Bool
      B = encoded_all (map (type_at T) reads) (map of reads)

      abbrev code : ℕ → Bool
      code = joint_code p reads s u

      both : encoded_all (state_types p ++ map (type_at T) reads) (s ++ values_at u reads) ≡ A ++ B
      both = encoded_both (state_types p) (map (type_at T) reads) s (map of reads) (states_apart p has s is)

      long_state : length A ≡ w
      long_state = long_code p has of_states s is

      pub state_coded : state_in p reads code ≡ s
      state_coded =
          values_back p has of_states s (map code (range_with_len 0 w)) is
          (same_map code (λ i. slice_index_or A i false) 0 w (λ i lt.
          ap (λ (bits : List Bool). slice_index_or bits (0 + i) false) both ∙ get_or_append_left A B false (0 + i) (omega (arith, lt, long_state)))
          ∙ codes_at A w long_state)

      chunk_coded : (k : ℕ) → is_in reads k ≡ true → chunk T w reads code k ≡ encoded (type_at T k) (of k)
      chunk_coded k on =
          let start = start_in T reads k in
          chunk_read T w reads code k on
          ∙ moved_map code (λ i. slice_index_or B i false) (w + start) start (width_of (type_at T k)) (λ i lt.
          ap (λ (bits : List Bool). slice_index_or bits ((w + start) + i) false) both
          ∙ ap (λ m. slice_index_or (A ++ B) m false) (let z : (w + start) + i ≡ length A + (start + i) = omega (arith, long_state) in z)
          ∙ get_or-append-add A B (start + i) false)
          ∙ coded_in T of (wide p has) reads k on

      pub read_coded : are_inputs p u ≡ true → AgreeOn reads (read_inputs p reads code) u
      read_coded given i lt =
          let k = get_or reads i 0 in
          let on = in_at reads i lt in
          let apart = inputs_apart p has u given in
          let long = apart.0 in
          elim (cases_lt k n) [
            | inl below ↦
                value_there T w reads (kept_below j code) k below
                ∙ ap (λ bits. Some (value_of_bits (type_at T k) bits)) (chunk_kept T w reads code k on ∙ chunk_coded k on)
                ∙ ap Some ((bits_are (type_at T k) (type_is p has k)).value_back (of k) (input_typed p has u given k below))
                ∙ sym (slice_get-get_or u k (value.Bool false) (omega (arith, below, long)))
            | inr past ↦ value_past T w reads (kept_below j code) k past ∙ sym (slice_get_past u k (omega (arith, past, long)))
          ]

    pub coded : IsJointCoding p reads
    coded = record {
      state = λ s u is. state_coded s u is;
      read = λ s u is given. read_coded s u is given;
      own_bits = λ x y agrees. (state_same x y agrees, read_same x y agrees);
      typed = read_typed;
    }

    -- inputs and the others, as bits behind those of a state with inputs that agree with them
    module _ (a x : ℕ → Bool) (u : List Value) (given : are_inputs p u ≡ true) (agree : AgreeOn reads (read_inputs p reads x) u)
        (first : (i : ℕ) → i < j → a i ≡ x i)
        (rest : (i : ℕ) → a ((j + j) + i) ≡ slice_index_or (encoded_all (map (type_at T) (others n reads)) (map (λ k. slice_index_or u k (value.Bool false)) (others n reads))) i false) where
      abbrev val : ℕ → Value
      val k = slice_index_or u k (value.Bool false)

      other_bits : (k : ℕ) → k < n → is_in reads k ≡ false → chunk T w reads a k ≡ encoded (type_at T k) (val k)
      other_bits k lt off =
          let start = start_in T (others n reads) k in
          let code = encoded_all (map (type_at T) (others n reads)) (map val (others n reads)) in
          chunk_other T w reads a k off
          ∙ moved_map a (λ i. slice_index_or code i false) ((j + j) + start) start (width_of (type_at T k)) (λ i below.
          ap a (let e : ((j + j) + start) + i ≡ (j + j) + (start + i) = omega arith in e) ∙ rest (start + i))
          ∙ coded_in T val (wide p has) (others n reads) k (in_below (λ i. not (is_in reads i)) n k lt ∙ ap not off)

      pub inputs_given : inputs_in p reads a ≡ u
      inputs_given =
          let apart = inputs_apart p has u given in
          let each : (k : ℕ) → k < n → value_of_bits (type_at T k) (chunk T w reads a k) ≡ val k =
          λ k lt. elim (cases_Bool (is_in reads k)) [
            | inl on ↦ ap (value_of_bits (type_at T k)) (chunk_same T w reads a x k on first) ∙ value_from x u agree k lt on
            | inr off ↦
                ap (value_of_bits (type_at T k)) (other_bits k lt off)
                ∙ (bits_are (type_at T k) (type_is p has k)).value_back (val k) (input_typed p has u given k lt)
          ] in
          chunks T w reads a ∙ valued_is T (chunk T w reads a) 0 u apart.0 (λ k lt. ap (λ i. value_of_bits (type_at T k) (chunk T w reads a i)) (plain k) ∙ each k lt)
