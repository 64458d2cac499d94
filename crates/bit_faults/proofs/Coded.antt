-- Bits that are codes, slot by slot, and bits that are mended to such.
use Rattle.std.proofs.Common.{◌≡◌, ◌∙◌, ℕ, zero, suc, ◌+◌, ◌-◌, ◌*◌, ◌<◌, Bool, true, false, ◌&&◌, List, [], ◌∷◌, ◌++◌, length, get_or, map, take, drop, inl, inr, refl, sym, ap, arith, length-append}
use Rattle.std.specs.Prelude.{nat_lt, replicate}
use Rattle.std.specs.List.{range_with_len}
use Rattle.std.proofs.lemmas.Bool.{and_parts, cases_Bool, cases_lt}
use Rattle.std.proofs.lemmas.List.{get_or-append-add, get_or-drop, get_or-replicate, get_or-take, get_or_append_left, get_or_default, length-drop, length-replicate, length-take-le, same_lists}
use Rattle.std.proofs.lemmas.List.FromFn.{get_or-map-range_with_len, length-map-range_with_len}
use Rattle.clause_core.specs.Assignments.{Agrees}
use Rattle.smv_tree.specs.declared.tree.Program.{Program}
use Rattle.value_types.specs.declared.value_type.ValueType.{ValueType}
use Rattle.value_types.specs.Codes.{count}
use Rattle.smv_meaning.specs.Runs.{are_inputs, is_state}
use Rattle.bit_arith.specs.Number.{number}
use Rattle.bit_values.specs.Bits.{is_code, width_of}
use Rattle.bit_states.specs.Coding.{IsCoding, inputs_of, next_of, state_of}
use Rattle.bit_states.specs.Layouts.{HasTypes, input_types, input_width, layout_of, named_width, state_types, state_width}
use Rattle.bit_states.specs.Values.{are_codes, width_of_all}
use Rattle.bit_states.proofs.Codes.{coding, same_map}
use Rattle.bit_faults.specs.Mending.{all_have_codes, coded, is_coded, mended, step_coded}
use Rattle.bit_faults.specs.Questions.{are_of_types}
use Rattle.bit_faults.proofs.OfItems.{OfTypes, of_types}

pub both : (a b : Bool) → a ≡ true → b ≡ true → (a && b) ≡ true
both a b one other = λ i. one i && other i

-- one value's bits

zeros : (n : ℕ) → number (λ b. b) (replicate n false) ≡ 0
zeros zero = refl
zeros (suc n) = ap (λ k. 0 + 2 * k) (zeros n)

-- mended bits are those of a value
mended_code : (t : ValueType) (bits new : List Bool) → nat_lt 0 (count t) ≡ true → length bits ≡ width_of t → length new ≡ width_of t →
    ((k : ℕ) → k < width_of t → get_or new k false ≡ (is_code t bits && get_or bits k false)) → is_code t new ≡ true
mended_code t bits new some l m at =
    elim (cases_Bool (is_code t bits)) [
      | inl hit ↦
          let same : new ≡ bits = same_lists new bits (m ∙ sym l) (λ k d lt.
          get_or_default new k d false lt ∙ at k (omega (arith, lt, m)) ∙ ap (λ c. c && get_or bits k false) hit ∙ sym (get_or_default bits k d false (omega (arith, lt, l, m)))) in
          ap (is_code t) same ∙ hit
      | inr miss ↦
          let same : new ≡ replicate (width_of t) false = same_lists new (replicate (width_of t) false) (m ∙ sym (length-replicate (width_of t) false)) (λ k d lt.
          get_or_default new k d false lt ∙ at k (omega (arith, lt, m)) ∙ ap (λ c. c && get_or bits k false) miss ∙ sym (get_or-replicate (width_of t) k false d (omega (arith, lt, m)))) in
          ap (is_code t) same ∙ ap (λ n. nat_lt n (count t)) (zeros (width_of t)) ∙ some
    ]

-- the bits of a list of values

pub length-coded : (types : List ValueType) (bits : List Bool) → length (coded types bits) ≡ width_of_all types
length-coded [] bits = refl
length-coded (t ∷ types) bits =
    let rest = length-coded types (drop (width_of t) bits) in
    let first = length-replicate (width_of t) (is_code t (take (width_of t) bits)) in
    omega (arith, rest, first, length-append (replicate (width_of t) (is_code t (take (width_of t) bits))) (coded types (drop (width_of t) bits)))

module _ (t : ValueType) (types : List ValueType) (bits : List Bool) where
  abbrev first_of : List Bool
  first_of = replicate (width_of t) (is_code t (take (width_of t) bits))

  coded_first : (k : ℕ) → k < width_of t → get_or (coded (t ∷ types) bits) k false ≡ is_code t (take (width_of t) bits)
  coded_first k lt =
      get_or_append_left first_of (coded types (drop (width_of t) bits)) false k (let l = length-replicate (width_of t) (is_code t (take (width_of t) bits)) in omega (arith, l, lt))
      ∙ get_or-replicate (width_of t) k (is_code t (take (width_of t) bits)) false lt

  coded_later : (k : ℕ) → get_or (coded (t ∷ types) bits) (width_of t + k) false ≡ get_or (coded types (drop (width_of t) bits)) k false
  coded_later k =
      ap (λ n. get_or (coded (t ∷ types) bits) (n + k) false) (sym (length-replicate (width_of t) (is_code t (take (width_of t) bits))))
      ∙ get_or-append-add first_of (coded types (drop (width_of t) bits)) k false

-- where all are codes, each bit is of one
pub coded_true : (types : List ValueType) (bits : List Bool) (k : ℕ) → are_codes types bits ≡ true → k < width_of_all types → get_or (coded types bits) k false ≡ true
coded_true [] bits k h lt = absurd (let no : ⊥ = omega (arith, lt) in no)
coded_true (t ∷ types) bits k h lt =
    let parts = and_parts (is_code t (take (width_of t) bits)) (are_codes types (drop (width_of t) bits)) h in
    elim (cases_lt k (width_of t)) [
      | inl here ↦ coded_first t types bits k here ∙ parts.0
      | inr later ↦
          let j = k - width_of t in
          let is : k ≡ width_of t + j = omega (arith, later) in
          ap (λ n. get_or (coded (t ∷ types) bits) n false) is ∙ coded_later t types bits j ∙ coded_true types (drop (width_of t) bits) j parts.1 (omega (arith, lt, later))
    ]

-- mended bits are codes
pub mended_codes : (types : List ValueType) (bits new : List Bool) → all_have_codes types ≡ true → length bits ≡ width_of_all types → length new ≡ width_of_all types →
    ((k : ℕ) → k < width_of_all types → get_or new k false ≡ (get_or (coded types bits) k false && get_or bits k false)) → are_codes types new ≡ true
mended_codes [] bits new some l m at = refl
mended_codes (t ∷ types) bits new some l m at =
    let w = width_of t in
    let have = and_parts (nat_lt 0 (count t)) (all_have_codes types) some in
    both (is_code t (take w new)) (are_codes types (drop w new))
    (mended_code t (take w bits) (take w new) have.0 (length-take-le w bits (omega (arith, l))) (length-take-le w new (omega (arith, m))) (λ k lt.
    get_or-take w new k false lt ∙ at k (omega (arith, lt))
    ∙ (λ i. coded_first t types bits k lt i && sym (get_or-take w bits k false lt) i)))
    (mended_codes types (drop w bits) (drop w new) have.1 (length-drop w bits ∙ omega (arith, l)) (length-drop w new ∙ omega (arith, m)) (λ k lt.
    get_or-drop w new k false ∙ at (w + k) (omega (arith, lt))
    ∙ (λ i. coded_later t types bits k i && sym (get_or-drop w bits k false) i)))

-- the bits of a step

module _ (p : Program) (b : ℕ → Bool) where
  abbrev wide : ℕ
  wide = state_width p

  abbrev few : ℕ
  few = input_width p

  abbrev of_state : List Bool
  of_state = coded (state_types p) (map b (layout_of p).state)

  abbrev of_next : List Bool
  of_next = coded (state_types p) (map b (layout_of p).next)

  abbrev of_given : List Bool
  of_given = coded (input_types p) (map b (layout_of p).inputs)

  long_state : length of_state ≡ wide
  long_state = length-coded (state_types p) (map b (layout_of p).state)

  long_next : length of_next ≡ wide
  long_next = length-coded (state_types p) (map b (layout_of p).next)

  long_two : length (of_state ++ of_next) ≡ wide + wide
  long_two = omega (arith, long_state, long_next, length-append of_state of_next)

  pub length-step_coded : length (step_coded p b) ≡ named_width p
  length-step_coded =
      let given = length-coded (input_types p) (map b (layout_of p).inputs) in
      omega (arith, long_two, given, length-append (of_state ++ of_next) of_given)

  at_state : (k : ℕ) → k < wide → is_coded p b k ≡ get_or of_state k false
  at_state k lt =
      get_or_append_left (of_state ++ of_next) of_given false k (omega (arith, lt, long_two))
      ∙ get_or_append_left of_state of_next false k (omega (arith, lt, long_state))

  at_next : (k : ℕ) → k < wide → is_coded p b (wide + k) ≡ get_or of_next k false
  at_next k lt =
      get_or_append_left (of_state ++ of_next) of_given false (wide + k) (omega (arith, lt, long_two))
      ∙ ap (λ n. get_or (of_state ++ of_next) (n + k) false) (sym long_state)
      ∙ get_or-append-add of_state of_next k false

  at_given : (k : ℕ) → is_coded p b ((wide + wide) + k) ≡ get_or of_given k false
  at_given k =
      ap (λ n. get_or ((of_state ++ of_next) ++ of_given) (n + k) false) (sym long_two)
      ∙ get_or-append-add (of_state ++ of_next) of_given k false

  -- bits of a valuation are codes
  pub all_coded : HasTypes p → are_of_types p b ≡ true → (k : ℕ) → k < named_width p → is_coded p b k ≡ true
  all_coded has valid k lt =
      let law : IsCoding p = coding p has in
      let of : OfTypes p b = of_types p b valid in
      elim (cases_lt k wide) [
        | inl first ↦ at_state k first ∙ coded_true (state_types p) (map b (layout_of p).state) k (sym (law.states b) ∙ of.from) first
        | inr past ↦ elim (cases_lt k (wide + wide)) [
          | inl second ↦
              let j = k - wide in
              let is : k ≡ wide + j = omega (arith, past) in
              let below : j < wide = omega (arith, second, past) in
              ap (is_coded p b) is ∙ at_next j below ∙ coded_true (state_types p) (map b (layout_of p).next) j (sym (law.next_states b) ∙ of.to) below
          | inr last ↦
              let j = k - (wide + wide) in
              let is : k ≡ (wide + wide) + j = omega (arith, last) in
              let below : j < few = omega (arith, lt, last) in
              ap (is_coded p b) is ∙ at_given j ∙ coded_true (input_types p) (map b (layout_of p).inputs) j (sym (law.inputs b) ∙ of.inputs) below
        ]
      ]

  -- bits of some slots that are mended
  part : (types : List ValueType) (start w : ℕ) → all_have_codes types ≡ true → w ≡ width_of_all types →
      ((k : ℕ) → k < w → is_coded p b (start + k) ≡ get_or (coded types (map b (range_with_len start w))) k false) → are_codes types (map (mended p b) (range_with_len start w)) ≡ true
  part types start w some is at =
      mended_codes types (map b (range_with_len start w)) (map (mended p b) (range_with_len start w)) some (length-map-range_with_len b start w ∙ is)
      (length-map-range_with_len (mended p b) start w ∙ is) (λ k lt.
      let below : k < w = omega (arith, lt, is) in
      get_or-map-range_with_len (mended p b) start w k (start + k) false below refl
      ∙ (λ i. at k below i && sym (get_or-map-range_with_len b start w k (start + k) false below refl) i))

  -- mended bits are those of a valuation
  pub mended_valid : HasTypes p → all_have_codes (state_types p) ≡ true → all_have_codes (input_types p) ≡ true → are_of_types p (mended p b) ≡ true
  mended_valid has states given =
      let law : IsCoding p = coding p has in
      let m = mended p b in
      both (is_state p (state_of p m) && are_inputs p (inputs_of p m)) (is_state p (next_of p m))
      (both (is_state p (state_of p m)) (are_inputs p (inputs_of p m))
      (law.states m ∙ part (state_types p) 0 wide states refl (λ k lt. ap (is_coded p b) (let e : 0 + k ≡ k = omega arith in e) ∙ at_state k lt))
      (law.inputs m ∙ part (input_types p) (wide + wide) few given refl (λ k lt. at_given k)))
      (law.next_states m ∙ part (state_types p) wide wide states refl at_next)

-- the same bits, the same codes
pub coded_same : (p : Program) (a b : ℕ → Bool) → Agrees (named_width p) a b → step_coded p a ≡ step_coded p b
coded_same p a b agrees =
    let w = state_width p in
    let n = input_width p in
    let first : map a (range_with_len 0 w) ≡ map b (range_with_len 0 w) = same_map a b 0 w (λ i lt. agrees (0 + i) (omega (arith, lt))) in
    let second : map a (range_with_len w w) ≡ map b (range_with_len w w) = same_map a b w w (λ i lt. agrees (w + i) (omega (arith, lt))) in
    let last : map a (range_with_len (w + w) n) ≡ map b (range_with_len (w + w) n) = same_map a b (w + w) n (λ i lt. agrees ((w + w) + i) (omega (arith, lt))) in
    λ i. coded (state_types p) (first i) ++ coded (state_types p) (second i) ++ coded (input_types p) (last i)
