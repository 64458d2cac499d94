-- Edges of bits, and what stands for their values.
use Rattle.std.proofs.Common.{◌≡◌, ◌∙◌, ℕ, ◌+◌, ◌<◌, ◌≤◌, Bool, true, false, ◌&&◌, List, [], ◌∷◌, ◌++◌, length, get_or, take, drop, sym, ap, subst, arith, append_assoc, append-nil}
use Rattle.std.specs.Prelude.{Some, unwrap_or}
use Rattle.std.specs.List.{list_all}
use Rattle.std.proofs.Math.Bool.{and_assoc, and-true}
use Rattle.std.proofs.Math.ListN.{drop_of_length-le}
use Rattle.std.proofs.lemmas.Bool.{and_parts, ltb-true}
use Rattle.std.proofs.lemmas.List.{drop-map, take-map}
use Rattle.std.proofs.lemmas.List.Elements.{All-push, All-weaker}
use Rattle.smv_value.specs.declared.value.Value.{Value}
use Rattle.smv_value.specs.declared.value.Value.TheVariants as value
use Rattle.value_types.specs.declared.value_type.ValueType.{ValueType}
use Rattle.value_types.specs.Types.{is_type}
use Rattle.value_types.specs.Codes.{HasCode, count, value_at}
use Rattle.value_types.proofs.Coding.{coding}
use Rattle.bit_graph.specs.declared.edge.Edge.{Edge}
use Rattle.bit_graph.specs.declared.edge.GraphNode.{GraphNode}
use Rattle.bit_graph.specs.Growth.{Extends}
use Rattle.bit_graph.specs.Meaning.{edge_value}
use Rattle.bit_arith.specs.Number.{number, number_of, values_of}
use Rattle.bit_arith.proofs.Numbers.{AllStand-extends}
use Rattle.bit_values.specs.Bits.{is_code, value_of_bits, width_of}
use Rattle.bit_values.proofs.Numbers.{number-values}
use Rattle.bit_operators.specs.declared.symbolic.Symbolic.{Symbolic}
use Rattle.bit_operators.specs.declared.symbolic.Symbolic.TheVariants as symbolic
use Rattle.bit_operators.specs.Denoting.{StandsIn, denoted}
use Rattle.bit_numbers.specs.Counts.{AllStandIn, AreDenoted}
use Rattle.bit_states.specs.Values.{are_codes, decoded_all}
use Rattle.bit_states.proofs.Walking.{next_left, of_all}

-- what stands in a graph stands in one that extends it

stands_kept : (g h : List GraphNode) (s : Symbolic) → Extends g h → StandsIn g s → StandsIn h s
stands_kept g h (symbolic.Boolean e) x s = omega (arith, x.longer, s)
stands_kept g h (symbolic.Word signed bits) x s = AllStand-extends g h bits x s
stands_kept g h (symbolic.Discrete d) x s = record {
  is_symbol = (let l = s.is_symbol in omega (arith, x.longer, l));
  number = AllStand-extends g h d.number x s.number;
  code = AllStand-extends g h d.code x s.code;
}

pub stand_more : (g h : List GraphNode) (made new : List Symbolic) (s : Symbolic) → Extends g h → new ≡ made ++ s ∷ [] → AllStandIn g made → StandsIn h s → AllStandIn h new
stand_more g h made new s x new_is all one =
    subst (AllStandIn h) (sym new_is)
    (All-push (StandsIn h) made s (All-weaker (StandsIn g) (StandsIn h) (λ y k. stands_kept g h y x k) made all) one)

-- the value of edges that are a code

code_value : (t : ValueType) (bits : List Bool) → is_type t ≡ true → is_code t bits ≡ true → value_at t (number (λ b. b) bits) ≡ Some (value_of_bits t bits)
code_value t bits h e =
    let found : (v : Value) × HasCode t v (number (λ b. b) bits) = (coding t h).of_code (number (λ b. b) bits) (ltb-true (number (λ b. b) bits) (count t) e) in
    found.1.back ∙ ap Some (sym (ap (λ o. unwrap_or o (value.Bool false)) found.1.back))

edges_value : (v : ℕ → Bool) (t : ValueType) (low : List Edge) (s : Symbolic) → is_type t ≡ true → ((x : Value) → value_at t (number_of v low) ≡ Some x → denoted v s ≡ Some x) →
    is_code t (values_of v low) ≡ true → denoted v s ≡ Some (value_of_bits t (values_of v low))
edges_value v t low s h gives e =
    gives (value_of_bits t (values_of v low)) (ap (value_at t) (sym (number-values v low)) ∙ code_value t (values_of v low) h e)

-- what is made stands for the values so far, if all bits are codes
pub record Valued (v : ℕ → Bool) (types : List ValueType) (bits : List Bool) (made : List Symbolic) (left : List ValueType) (rest : List Bool) : Type 0 where
  pub codes : are_codes types bits ≡ true → are_codes left rest ≡ true
  pub values : are_codes types bits ≡ true → (ss : List Symbolic) → AreDenoted v ss (decoded_all left rest) → AreDenoted v (made ++ ss) (decoded_all types bits)

pub valued_none : (v : ℕ → Bool) (types : List ValueType) (bits : List Bool) → Valued v types bits [] types bits
valued_none v types bits = record { codes = λ e. e; values = λ e ss h. h }

valued_one : (v : ℕ → Bool) (types : List ValueType) (bits : List Bool) (made : List Symbolic) (left : List ValueType) (rest : List Bool) (t : ValueType) (s : Symbolic) →
    (is_code t (take (width_of t) rest) ≡ true → denoted v s ≡ Some (value_of_bits t (take (width_of t) rest))) → Valued v types bits made (t ∷ left) rest →
    Valued v types bits (made ++ s ∷ []) left (drop (width_of t) rest)
valued_one v types bits made left rest t s gives before = record {
  codes = λ e. (and_parts (is_code t (take (width_of t) rest)) (are_codes left (drop (width_of t) rest)) (before.codes e)).1;
  values = λ e ss h.
      let one = gives (and_parts (is_code t (take (width_of t) rest)) (are_codes left (drop (width_of t) rest)) (before.codes e)).0 in
      subst (λ (l : List Symbolic). AreDenoted v l (decoded_all types bits)) (sym (append_assoc made (s ∷ []) ss)) (before.values e (s ∷ ss) (one, h));
}

pub valued_more : (v : ℕ → Bool) (types : List ValueType) (bits : List Bool) (rest low more : List Edge) (made new : List Symbolic) (i : ℕ) (t : ValueType) (s : Symbolic) →
    list_all is_type types ≡ true → i < length types → t ≡ get_or types i t → low ≡ take (width_of t) rest → more ≡ drop (width_of t) rest → new ≡ made ++ s ∷ [] →
    ((x : Value) → value_at t (number_of v low) ≡ Some x → denoted v s ≡ Some x) →
    Valued v types bits made (drop i types) (values_of v rest) → Valued v types bits new (drop (i + 1) types) (values_of v more)
valued_more v types bits rest low more made new i t s all lt is low_is more_is new_is gives before =
    let w = width_of t in
    let first : values_of v low ≡ take w (values_of v rest) = ap (values_of v) low_is ∙ sym (take-map (edge_value v) w rest) in
    let others : values_of v more ≡ drop w (values_of v rest) = ap (values_of v) more_is ∙ sym (drop-map (edge_value v) w rest) in
    let one : is_code t (take w (values_of v rest)) ≡ true → denoted v s ≡ Some (value_of_bits t (take w (values_of v rest))) =
    subst (λ (l : List Bool). is_code t l ≡ true → denoted v s ≡ Some (value_of_bits t l)) first (edges_value v t low s (of_all is_type types i t all lt is) gives) in
    let here = valued_one v types bits made (drop (i + 1) types) (values_of v rest) t s one
    (subst (λ (l : List ValueType). Valued v types bits made l (values_of v rest)) (next_left types i t lt is) before) in
    subst (λ (l : List Symbolic). Valued v types bits l (drop (i + 1) types) (values_of v more)) (sym new_is)
    (subst (λ (l : List Bool). Valued v types bits (made ++ s ∷ []) (drop (i + 1) types) l) (sym others) here)

pub valued_all : (v : ℕ → Bool) (types : List ValueType) (bits : List Bool) (made : List Symbolic) (rest : List Bool) (i : ℕ) → length types ≤ i →
    Valued v types bits made (drop i types) rest → are_codes types bits ≡ true → AreDenoted v made (decoded_all types bits)
valued_all v types bits made rest i end before e =
    let last = subst (λ (l : List ValueType). Valued v types bits made l rest) (drop_of_length-le types {i = i} end) before in
    subst (λ (l : List Symbolic). AreDenoted v l (decoded_all types bits)) (append-nil made) (last.values e [] tt)

-- tests of bits so far, and of those that are left

pub tested_more : (v : ℕ → Bool) (types : List ValueType) (bits : List Bool) (rest low more : List Edge) (all one both : Edge) (i : ℕ) (t : ValueType) →
    i < length types → t ≡ get_or types i t → low ≡ take (width_of t) rest → more ≡ drop (width_of t) rest →
    edge_value v one ≡ is_code t (values_of v low) → edge_value v both ≡ (edge_value v all && edge_value v one) →
    (edge_value v all && are_codes (drop i types) (values_of v rest)) ≡ are_codes types bits → (edge_value v both && are_codes (drop (i + 1) types) (values_of v more)) ≡ are_codes types bits
tested_more v types bits rest low more all one both i t lt is low_is more_is one_is both_is before =
    let w = width_of t in
    let first : values_of v low ≡ take w (values_of v rest) = ap (values_of v) low_is ∙ sym (take-map (edge_value v) w rest) in
    let others : values_of v more ≡ drop w (values_of v rest) = ap (values_of v) more_is ∙ sym (drop-map (edge_value v) w rest) in
    (λ j. both_is j && are_codes (drop (i + 1) types) (others j))
    ∙ and_assoc (edge_value v all) (edge_value v one) (are_codes (drop (i + 1) types) (drop w (values_of v rest)))
    ∙ ap (λ b. edge_value v all && (b && are_codes (drop (i + 1) types) (drop w (values_of v rest)))) (one_is ∙ ap (is_code t) first)
    ∙ sym (ap (λ (l : List ValueType). edge_value v all && are_codes l (values_of v rest)) (next_left types i t lt is)) ∙ before

pub tested_all : (types : List ValueType) (bits rest : List Bool) (b : Bool) (i : ℕ) → length types ≤ i → (b && are_codes (drop i types) rest) ≡ are_codes types bits → b ≡ are_codes types bits
tested_all types bits rest b i end before =
    sym (ap (λ (l : List ValueType). b && are_codes l rest) (drop_of_length-le types {i = i} end) ∙ and-true b) ∙ before
