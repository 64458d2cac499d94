-- From the edge of a fault to the question of an item.
use Rattle.std.proofs.Common.{◌≡◌, ◌∙◌, ℕ, Bool, true, false, ◌&&◌, List, refl, sym, ap, subst}
use Rattle.std.specs.Prelude.{None, Option, Some}
use Rattle.std.specs.Option.{is_some}
use Rattle.clause_core.specs.Assignments.{Agrees}
use Rattle.bit_graph.specs.declared.edge.Edge.{Edge}
use Rattle.bit_graph.specs.declared.edge.GraphNode.{GraphNode as Gate}
use Rattle.bit_graph.specs.Meaning.{Denotes, HasInputs}
use Rattle.bit_graph.specs.Values.{OneWay, values}
use Rattle.smv_tree.specs.declared.place.Place.{Place}
use Rattle.smv_tree.specs.declared.tree.Program.{Program}
use Rattle.smv_value.specs.declared.value.FaultRule.{FaultRule}
use Rattle.smv_resolve.specs.Items.{ResolvedItem}
use Rattle.smv_slots.specs.Slots.{slots_of}
use Rattle.smv_slots.specs.Slots.{types_of}
use Rattle.smv_meaning.specs.declared.typed.Typed.{Typed}
use Rattle.smv_meaning.specs.Faults.{item_fault}
use Rattle.smv_meaning.specs.Runs.{are_inputs, is_state}
use Rattle.bit_states.specs.Coding.{inputs_of, next_of, state_of}
use Rattle.bit_states.specs.Layouts.{named_width}
use Rattle.bit_faults.specs.Questions.{NeverFaults, are_of_types, fault_of_bits}
use Rattle.bit_faults.specs.Valuations.{TellsItem}
use Rattle.bit_faults.proofs.Bits.{AreBits, bits_of, inputs_same, next_same, state_same}

abbrev Fault : Type 0
Fault = FaultRule × Place

module _ (n : ℕ) (g : List Gate) (typed : Typed) (item : ResolvedItem) (e : Edge) (n_is : n ≡ named_width typed.scope.program) (inputs : HasInputs n g) (law : OneWay g)
    (told : TellsItem g typed.scope.program item e) where
  abbrev p : Program
  p = typed.scope.program

  agree : (y : ℕ → Bool) → Agrees (named_width p) (values y g) y
  agree y = subst (λ k. Agrees k (values y g) y) n_is (λ k lt. let at = inputs.at k lt in (law.some y).1 k at.0 at.1)

  no_fault : (o : Option Fault) → is_some o ≡ false → o ≡ None
  no_fault None h = refl
  no_fault (Some f) h = cc

  all : (a b c : Bool) → a ≡ true → b ≡ true → c ≡ true → (a && b && c) ≡ true
  all a b c one two last = λ i. one i && two i && last i

  -- and there is no fault where the edge is always false
  pub never_true : Denotes g e (λ v. false) → NeverFaults p item
  never_true never = λ s u t from given to.
      let at : AreBits p s u t = bits_of p typed.right_types s u t from given to in
      let v = values at.bits g in
      let consistent = (law.some at.bits).0 in
      let first : state_of p v ≡ s = state_same p v at.bits (agree at.bits) ∙ at.state in
      let between : inputs_of p v ≡ u = inputs_same p v at.bits (agree at.bits) ∙ at.inputs in
      let second : next_of p v ≡ t = next_same p v at.bits (agree at.bits) ∙ at.next in
      let of_types : are_of_types p v ≡ true =
      all (is_state p (state_of p v)) (are_inputs p (inputs_of p v)) (is_state p (next_of p v)) (ap (is_state p) first ∙ from) (ap (are_inputs p) between ∙ given) (ap (is_state p) second ∙ to) in
      let there : fault_of_bits p item v ≡ None = no_fault (fault_of_bits p item v) (sym (told v consistent of_types) ∙ never v consistent) in
      (λ i. item_fault (types_of p) (slots_of p) (sym first i) (sym between i) (sym second i) item) ∙ there
