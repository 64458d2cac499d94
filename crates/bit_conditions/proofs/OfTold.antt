-- What is told by the slots, nodes, types and edges of a program, whatever slices they are read by.
use Rattle.std.proofs.Common.{◌≡◌, ◌∙◌, ℕ, Bool, true, List, [], length, sym, subst}
use Rattle.smv_tree.specs.declared.tree.Program.{Program}
use Rattle.smv_value.specs.declared.value.Value.{Value}
use Rattle.smv_resolve.specs.declared.node.ExprNode.{ExprNode}
use Rattle.smv_slots.specs.declared.slot.Slot.{Slot}
use Rattle.smv_slots.specs.Slots.{slots_of}
use Rattle.smv_meaning.specs.declared.typed.Typed.{Typed}
use Rattle.smv_meaning.specs.declared.outcome.Evaluation.{Evaluation}
use Rattle.smv_meaning.specs.Runs.{are_inputs, is_state}
use Rattle.smv_meaning.specs.Tables.{outcomes_of}
use Rattle.value_types.specs.declared.value_type.ValueType.{ValueType}
use Rattle.bit_graph.specs.declared.edge.Edge.{Edge}
use Rattle.bit_arith.specs.Number.{values_of}
use Rattle.bit_operators.specs.declared.symbolic.Symbolic.{Symbolic}
use Rattle.bit_numbers.specs.Counts.{AreDenoted}
use Rattle.bit_outcomes.specs.declared.told.Told.{Told}
use Rattle.bit_outcomes.specs.Telling.{TellsAll}
use Rattle.bit_states.specs.Values.{are_codes, decoded_all}
use Rattle.bit_states.specs.Layouts.{HasTypes, input_types, input_width, state_types, state_width}
use Rattle.bit_conditions.specs.Told.{inputs_under, state_under}
use Rattle.bit_conditions.proofs.OfStates.{input_codes, state_codes}

-- outcomes of the program's nodes

module _ (typed : Typed) (v : ℕ → Bool) (slots : List Slot) (nodes : List ExprNode) (slots_is : slots ≡ typed.slots) (nodes_is : nodes ≡ typed.nodes) where
  same_outcomes : (s u t : List Value) → outcomes_of slots s u t nodes ≡ outcomes_of (slots_of typed.scope.program) s u t typed.nodes
  same_outcomes s u t =
      let laid : slots ≡ slots_of typed.scope.program = slots_is ∙ typed.laid_out in
      λ i. outcomes_of (laid i) s u t (nodes_is i)

  pub told_as : (ts : List Told) (s u t : List Value) → TellsAll v ts (outcomes_of slots s u t nodes) → TellsAll v ts (outcomes_of (slots_of typed.scope.program) s u t typed.nodes)
  told_as ts s u t = subst (λ (os : List Evaluation). TellsAll v ts os) (same_outcomes s u t)

  pub table_told : (state inputs values given : List Symbolic) (later next ts : List Told) → values ≡ state → given ≡ inputs → next ≡ later →
      ((s u t : List Value) → AreDenoted v values s → AreDenoted v given u → TellsAll v next (outcomes_of slots t [] [] nodes) → TellsAll v ts (outcomes_of slots s u t nodes)) →
      (s u t : List Value) → AreDenoted v state s → AreDenoted v inputs u → TellsAll v later (outcomes_of (slots_of typed.scope.program) t [] [] typed.nodes) →
      TellsAll v ts (outcomes_of (slots_of typed.scope.program) s u t typed.nodes)
  table_told state inputs values given later next ts values_is given_is next_is made s u t ds du tells =
      told_as ts s u t
      (made s u t
      (subst (λ (ss : List Symbolic). AreDenoted v ss s) (sym values_is) ds)
      (subst (λ (ss : List Symbolic). AreDenoted v ss u) (sym given_is) du)
      (subst (λ (os : List Evaluation). TellsAll v next os) (sym (same_outcomes t [] []))
      (subst (λ (ks : List Told). TellsAll v ks (outcomes_of (slots_of typed.scope.program) t [] [] typed.nodes)) (sym next_is) tells)))

-- states and inputs by their edges

module _ (p : Program) (has : HasTypes p) (v : ℕ → Bool) (types : List ValueType) (given bits : List Edge) (given_is : given ≡ bits) where
  abbrev Says : List ValueType → List Edge → List Symbolic → Type 0
  Says ts es ss = are_codes ts (values_of v es) ≡ true → AreDenoted v ss (decoded_all ts (values_of v es))

  says_as : (as' : List ValueType) (ss : List Symbolic) → types ≡ as' → Says types given ss → Says as' bits ss
  says_as as' ss is says = subst (λ (es : List Edge). Says as' es ss) given_is (subst (λ (ts : List ValueType). Says ts given ss) is says)

  module _ (types_is : types ≡ state_types p) (width : length bits ≡ state_width p) where
    pub state_valid : (b : Bool) → b ≡ are_codes types (values_of v given) → b ≡ is_state p (state_under p v bits)
    state_valid b e = e ∙ (λ i. are_codes (types_is i) (values_of v (given_is i))) ∙ sym (state_codes p has v bits width)

    pub state_values : (ss : List Symbolic) → Says types given ss → is_state p (state_under p v bits) ≡ true → AreDenoted v ss (state_under p v bits)
    state_values ss says is = says_as (state_types p) ss types_is says (sym (state_codes p has v bits width) ∙ is)

  module _ (types_is : types ≡ input_types p) (width : length bits ≡ input_width p) where
    pub inputs_valid : (b : Bool) → b ≡ are_codes types (values_of v given) → b ≡ are_inputs p (inputs_under p v bits)
    inputs_valid b e = e ∙ (λ i. are_codes (types_is i) (values_of v (given_is i))) ∙ sym (input_codes p has v bits width)

    pub inputs_values : (ss : List Symbolic) → Says types given ss → are_inputs p (inputs_under p v bits) ≡ true → AreDenoted v ss (inputs_under p v bits)
    inputs_values ss says are = says_as (input_types p) ss types_is says (sym (input_codes p has v bits width) ∙ are)
