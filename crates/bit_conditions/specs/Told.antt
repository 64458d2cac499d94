-- What edges of a graph tell of states, of inputs and of the nodes of a program there.
use Rattle.std.specs.Prelude.{◌≡◌, ℕ, Bool, true, List, [], length, map}
use Rattle.bit_graph.specs.declared.edge.Edge.{Edge}
use Rattle.bit_graph.specs.declared.edge.GraphNode.{GraphNode}
use Rattle.bit_graph.specs.Meaning.{Consistent, Denotes, Stands, edge_value}
use Rattle.bit_arith.specs.Number.{AllStand, values_of}
use Rattle.bit_numbers.specs.Counts.{AllStandIn, AreDenoted}
use Rattle.bit_outcomes.specs.declared.told.Told.{Told}
use Rattle.bit_outcomes.specs.Telling.{AllTold, TellsAll}
use Rattle.bit_clauses.specs.declared.either.Either.{Either}
use Rattle.bit_clauses.specs.Asserted.{EithersStand, all_hold}
use Rattle.smv_tree.specs.declared.tree.Program.{Program}
use Rattle.smv_value.specs.declared.value.Value.{Value}
use Rattle.smv_slots.specs.Slots.{slots_of}
use Rattle.smv_meaning.specs.declared.typed.Typed.{Typed}
use Rattle.smv_meaning.specs.Runs.{are_inputs, is_state}
use Rattle.smv_meaning.specs.Tables.{outcomes_of}
use Rattle.bit_states.specs.Layouts.{input_types, input_width, state_types, state_width}
use Rattle.bit_states.specs.Values.{decoded_all}
use Rattle.bit_conditions.specs.declared.told.ToldState.{ToldState}
use Rattle.bit_conditions.specs.declared.told.ToldInputs.{ToldInputs}
use Rattle.bit_conditions.specs.Asked.{is_just_in, justices_of}

-- the state that edges are, and the inputs of a step
abbrev pub state_under : Program → (ℕ → Bool) → List Edge → List Value
state_under p v edges = decoded_all (state_types p) (values_of v edges)

abbrev pub inputs_under : Program → (ℕ → Bool) → List Edge → List Value
inputs_under p v edges = decoded_all (input_types p) (values_of v edges)

-- inputs of a program: some, if each input slot has a type with values
pub record SomeInputs (p : Program) : Type 0 where
  pub given : List Value
  pub typed : are_inputs p given ≡ true

-- What is told of a state: its edges, whether they are those of a state, and, where they are, its values and the
-- outcome of each node there. Inputs that a step from it may have are there, so that what is known of steps is known of
-- states.
pub record TellsState (g : List GraphNode) (typed : Typed) (state : ToldState) : Type 0 where
  pub inputs : SomeInputs typed.scope.program
  pub bits : AllStand g state.bits
  pub width : length state.bits ≡ state_width typed.scope.program
  pub valid_stands : Stands g state.valid
  pub valid : Denotes g state.valid (λ v. is_state typed.scope.program (state_under typed.scope.program v state.bits))
  pub values_stand : AllStandIn g state.values
  pub values : (v : ℕ → Bool) → Consistent v g → is_state typed.scope.program (state_under typed.scope.program v state.bits) ≡ true →
      AreDenoted v state.values (state_under typed.scope.program v state.bits)
  pub told_stand : AllTold g state.told
  pub told : (v : ℕ → Bool) → Consistent v g → is_state typed.scope.program (state_under typed.scope.program v state.bits) ≡ true →
      TellsAll v state.told (outcomes_of (slots_of typed.scope.program) (state_under typed.scope.program v state.bits) [] [] typed.nodes)

-- the same of inputs, which have no nodes of their own
pub record TellsInputs (g : List GraphNode) (typed : Typed) (inputs : ToldInputs) : Type 0 where
  pub bits : AllStand g inputs.bits
  pub width : length inputs.bits ≡ input_width typed.scope.program
  pub valid_stands : Stands g inputs.valid
  pub valid : Denotes g inputs.valid (λ v. are_inputs typed.scope.program (inputs_under typed.scope.program v inputs.bits))
  pub values_stand : AllStandIn g inputs.values
  pub values : (v : ℕ → Bool) → Consistent v g → are_inputs typed.scope.program (inputs_under typed.scope.program v inputs.bits) ≡ true →
      AreDenoted v inputs.values (inputs_under typed.scope.program v inputs.bits)

-- the outcome of each node where there is no state
pub record TellsNowhere (g : List GraphNode) (typed : Typed) (ts : List Told) : Type 0 where
  pub stand : AllTold g ts
  pub told : (v : ℕ → Bool) → Consistent v g → TellsAll v ts (outcomes_of (slots_of typed.scope.program) [] [] [] typed.nodes)

-- the outcome of each node in a step between states
pub record TellsStep (g : List GraphNode) (typed : Typed) (from : ToldState) (inputs : ToldInputs) (to : ToldState) (ts : List Told) : Type 0 where
  pub stand : AllTold g ts
  pub told : (v : ℕ → Bool) → Consistent v g → is_state typed.scope.program (state_under typed.scope.program v from.bits) ≡ true →
      are_inputs typed.scope.program (inputs_under typed.scope.program v inputs.bits) ≡ true →
      is_state typed.scope.program (state_under typed.scope.program v to.bits) ≡ true →
      TellsAll v ts (outcomes_of (slots_of typed.scope.program) (state_under typed.scope.program v from.bits) (inputs_under typed.scope.program v inputs.bits)
      (state_under typed.scope.program v to.bits) typed.nodes)

-- the outcome of each node in a state with inputs, of which no step is spoken
pub record TellsMoment (g : List GraphNode) (typed : Typed) (state : ToldState) (inputs : ToldInputs) (ts : List Told) : Type 0 where
  pub stand : AllTold g ts
  pub told : (v : ℕ → Bool) → Consistent v g → is_state typed.scope.program (state_under typed.scope.program v state.bits) ≡ true →
      are_inputs typed.scope.program (inputs_under typed.scope.program v inputs.bits) ≡ true →
      TellsAll v ts (outcomes_of (slots_of typed.scope.program) (state_under typed.scope.program v state.bits) (inputs_under typed.scope.program v inputs.bits) [] typed.nodes)

-- in the graph, all conditions hold exactly where the valuation's nodes pass the test
pub record Tells (g : List GraphNode) (es : List Either) (f : (ℕ → Bool) → Bool) : Type 0 where
  pub stand : EithersStand g es
  pub holds : (v : ℕ → Bool) → Consistent v g → all_hold v es ≡ f v

-- an edge for each formula of JUSTICE, in the order of the items, that is true where the formula is
pub record TellsJust (g : List GraphNode) (p : Program) (state : (ℕ → Bool) → List Value) (edges : List Edge) : Type 0 where
  pub stand : AllStand g edges
  pub told : (v : ℕ → Bool) → Consistent v g → map (edge_value v) edges ≡ map (is_just_in p (state v)) (justices_of p)
