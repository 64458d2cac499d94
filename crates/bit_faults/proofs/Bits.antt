-- The bits of a valuation, and bits that are the same.
use Rattle.std.proofs.Common.{◌≡◌, ◌∙◌, ℕ, ◌+◌, Bool, true, false, ◌&&◌, List, [], ◌∷◌, ◌++◌, length, map, get_or, refl, sym, ap, arith, append_assoc, length-append}
use Rattle.std.specs.List.{range_with_len}
use Rattle.std.specs.Option.{is_some}
use Rattle.std.proofs.Math.Seq.{get_or-append_seam}
use Rattle.std.proofs.lemmas.List.{append-nil}
use Rattle.clause_core.specs.Assignments.{Agrees}
use Rattle.smv_tree.specs.declared.tree.Program.{Program}
use Rattle.smv_value.specs.declared.value.Value.{Value}
use Rattle.smv_resolve.specs.Items.{ResolvedItem}
use Rattle.smv_slots.specs.Slots.{slots_of}
use Rattle.smv_slots.specs.Slots.{types_of}
use Rattle.smv_meaning.specs.Faults.{item_fault}
use Rattle.smv_meaning.specs.Runs.{are_inputs, is_state}
use Rattle.bit_states.specs.Coding.{inputs_of, next_of, state_of}
use Rattle.bit_states.specs.Layouts.{HasTypes, input_types, input_width, named_width, state_types, state_width}
use Rattle.bit_states.specs.Values.{decoded_all, encoded_all}
use Rattle.bit_faults.specs.Questions.{faults_at}
use Rattle.bit_states.proofs.Codes.{long_code, of_inputs, of_states, same_map, values_back}

-- bits of a list, behind some and before others

part : (before xs after : List Bool) → map (λ k. get_or (before ++ (xs ++ after)) k false) (range_with_len (length before) (length xs)) ≡ xs
part before [] after = refl
part before (b ∷ xs) after =
    let seen : List Bool → ℕ → Bool = λ l k. get_or l k false in
    let here : seen (before ++ (b ∷ (xs ++ after))) (length before) ≡ b = get_or-append_seam before b (xs ++ after) false in
    let long : length before + 1 ≡ length (before ++ b ∷ []) = omega (arith, length-append before (b ∷ [])) in
    let rest : map (seen (before ++ (b ∷ (xs ++ after)))) (range_with_len (length before + 1) (length xs)) ≡ xs =
    ap (λ (l : List Bool). map (seen l) (range_with_len (length before + 1) (length xs))) (sym (append_assoc before (b ∷ []) (xs ++ after)))
    ∙ ap (λ (n : ℕ). map (seen ((before ++ b ∷ []) ++ (xs ++ after))) (range_with_len n (length xs))) long
    ∙ part (before ++ b ∷ []) xs after in
    λ i. here i ∷ rest i

part_at : (whole before xs after : List Bool) (start count : ℕ) → whole ≡ before ++ (xs ++ after) → start ≡ length before → count ≡ length xs →
    map (λ k. get_or whole k false) (range_with_len start count) ≡ xs
part_at whole before xs after start count is from many =
    ap (λ (l : List Bool). map (λ k. get_or l k false) (range_with_len start count)) is
    ∙ ap (λ (n : ℕ). map (λ k. get_or (before ++ (xs ++ after)) k false) (range_with_len n count)) from
    ∙ ap (λ (n : ℕ). map (λ k. get_or (before ++ (xs ++ after)) k false) (range_with_len (length before) n)) many
    ∙ part before xs after

-- bits that are this valuation
pub record AreBits (p : Program) (s u t : List Value) : Type 0 where
  pub bits : ℕ → Bool
  pub state : state_of p bits ≡ s
  pub inputs : inputs_of p bits ≡ u
  pub next : next_of p bits ≡ t

-- each valuation of the declared types has some
pub bits_of : (p : Program) → HasTypes p → (s u t : List Value) → is_state p s ≡ true → are_inputs p u ≡ true → is_state p t ≡ true → AreBits p s u t
bits_of p has s u t from given to =
    let w = state_width p in
    let n = input_width p in
    let es = encoded_all (state_types p) s in
    let et = encoded_all (state_types p) t in
    let eu = encoded_all (input_types p) u in
    let first : length es ≡ w = long_code p has of_states s from in
    let second : length et ≡ w = long_code p has of_states t to in
    let third : length eu ≡ n = long_code p has of_inputs u given in
    let whole = es ++ (et ++ eu) in
    let x : ℕ → Bool = λ k. get_or whole k false in
    let both : w + w ≡ length (es ++ et) = omega (arith, first, second, length-append es et) in
    let at_from : map x (range_with_len 0 w) ≡ es = part_at whole [] es (et ++ eu) 0 w refl refl (sym first) in
    let at_to : map x (range_with_len w w) ≡ et = part_at whole es et eu w w refl (sym first) (sym second) in
    let at_given : map x (range_with_len (w + w) n) ≡ eu =
    part_at whole (es ++ et) eu [] (w + w) n (sym (append_assoc es et eu) ∙ ap (λ (l : List Bool). (es ++ et) ++ l) (sym (append-nil eu))) both (sym third) in
    record {
      bits = x;
      state = values_back p has of_states s (map x (range_with_len 0 w)) from at_from;
      inputs = values_back p has of_inputs u (map x (range_with_len (w + w) n)) given at_given;
      next = values_back p has of_states t (map x (range_with_len w w)) to at_to;
    }

-- the same bits, the same valuation

module _ (p : Program) (a b : ℕ → Bool) (agrees : Agrees (named_width p) a b) where
  pub state_same : state_of p a ≡ state_of p b
  state_same = ap (decoded_all (state_types p)) (same_map a b 0 (state_width p) (λ i lt. agrees (0 + i) (omega (arith, lt))))

  pub next_same : next_of p a ≡ next_of p b
  next_same = ap (decoded_all (state_types p)) (same_map a b (state_width p) (state_width p) (λ i lt. agrees (state_width p + i) (omega (arith, lt))))

  pub inputs_same : inputs_of p a ≡ inputs_of p b
  inputs_same =
      ap (decoded_all (input_types p)) (same_map a b (state_width p + state_width p) (input_width p) (λ i lt. agrees ((state_width p + state_width p) + i) (omega (arith, lt))))

  -- what is asked of a valuation is the same
  pub valuation_same : (test : List Value → List Value → List Value → Bool) → test (state_of p a) (inputs_of p a) (next_of p a) ≡ test (state_of p b) (inputs_of p b) (next_of p b)
  valuation_same test = λ i. test (state_same i) (inputs_same i) (next_same i)

-- and so is whether an item faults there
pub faults_same : (p : Program) (x : ResolvedItem) (a b : ℕ → Bool) → Agrees (named_width p) a b → faults_at p x a ≡ faults_at p x b
faults_same p x a b agrees =
    valuation_same p a b agrees (λ (s u t : List Value). (is_state p s && are_inputs p u && is_state p t) && is_some (item_fault (types_of p) (slots_of p) s u t x))
