-- What edges tell of a valuation of the declared types: a state, the inputs of a step from it, and the next state.
use Rattle.std.specs.Prelude.{◌≡◌, ℕ, Bool, true, false, List, map}
use Rattle.bit_graph.specs.declared.edge.Edge.{Edge}
use Rattle.bit_graph.specs.declared.edge.GraphNode.{GraphNode}
use Rattle.bit_arith.specs.Number.{AllStand}
use Rattle.bit_graph.specs.Meaning.{Consistent, edge_value}
use Rattle.std.specs.Option.{is_some}
use Rattle.smv_tree.specs.declared.tree.Program.{Program}
use Rattle.smv_slots.specs.Slots.{slots_of}
use Rattle.smv_resolve.specs.Items.{ResolvedItem}
use Rattle.smv_resolve.specs.Resolved.{parts_of}
use Rattle.smv_meaning.specs.declared.typed.Typed.{Typed}
use Rattle.smv_meaning.specs.Runs.{are_inputs, is_state}
use Rattle.bit_states.specs.Coding.{inputs_of, state_of}
use Rattle.bit_states.specs.Layouts.{input_types, layout_of, state_types}
use Rattle.bit_conditions.specs.Told.{TellsInputs, TellsState, TellsStep}
use Rattle.bit_faults.specs.declared.valuation.Sides.{Sides}
use Rattle.bit_faults.specs.declared.valuation.Valuation.{Valuation}
use Rattle.bit_faults.specs.Formulas.{AllStandIfAny, TellsFormulas}
use Rattle.bit_faults.specs.Mending.{all_have_codes, step_coded}
use Rattle.bit_faults.specs.Questions.{are_of_types, fault_of_bits}

-- the edge of this input of a graph
abbrev pub input : ℕ → Edge
input n = record { node = n; negated = false }

-- the edges of these
abbrev pub edges_of : List ℕ → List Edge
edges_of bits = map input bits

-- two states and inputs, whose bits are the first inputs of the graph
pub record TellsSides (g : List GraphNode) (typed : Typed) (x : Sides) : Type 0 where
  pub from_bits : x.from.bits ≡ edges_of (layout_of typed.scope.program).state
  pub input_bits : x.inputs.bits ≡ edges_of (layout_of typed.scope.program).inputs
  pub to_bits : x.to.bits ≡ edges_of (layout_of typed.scope.program).next
  pub from : TellsState g typed x.from
  pub inputs : TellsInputs g typed x.inputs
  pub to : TellsState g typed x.to

-- the outcomes of nodes there, and the faults of temporal formulas
pub record TellsValuation (g : List GraphNode) (typed : Typed) (x : Valuation) : Type 0 where
  pub sides : TellsSides g typed x.sides
  pub step : TellsStep g typed x.sides.from x.sides.inputs x.sides.to x.step
  pub formulas_stand : AllStandIfAny g x.formulas
  pub formulas : (v : ℕ → Bool) → Consistent v g → is_state typed.scope.program (state_of typed.scope.program v) ≡ true →
      are_inputs typed.scope.program (inputs_of typed.scope.program v) ≡ true →
      TellsFormulas v (slots_of typed.scope.program) (state_of typed.scope.program v) (inputs_of typed.scope.program v) x.formulas (parts_of typed.nodes)

-- For each bit of a step the edge is true where the bits of its slot are a code, and each slot has values.
pub record TellsDomains (g : List GraphNode) (p : Program) (domains : List Edge) : Type 0 where
  pub stand : AllStand g domains
  pub told : (v : ℕ → Bool) → Consistent v g → map (edge_value v) domains ≡ step_coded p v
  pub states : all_have_codes (state_types p) ≡ true
  pub inputs : all_have_codes (input_types p) ≡ true

-- where the bits are a valuation, the edge is true just where the item faults
abbrev pub TellsItem : List GraphNode → Program → ResolvedItem → Edge → Type 0
TellsItem g p x e = (v : ℕ → Bool) → Consistent v g → are_of_types p v ≡ true → edge_value v e ≡ is_some (fault_of_bits p x v)
