-- What edges tell of the faults of temporal formulas.
use Rattle.std.specs.Prelude.{◌≡◌, ℕ, Bool, true, List, length, Option, None, Some, slice_index_or, All}
use Rattle.std.specs.List.{list_all, list_any}
use Rattle.std.specs.Option.{is_some}
use Rattle.bit_graph.specs.declared.edge.Edge.{Edge}
use Rattle.bit_graph.specs.declared.edge.GraphNode.{GraphNode}
use Rattle.bit_graph.specs.Meaning.{Stands, edge_value}
use Rattle.smv_value.specs.declared.value.Value.{Value}
use Rattle.smv_slots.specs.declared.slot.Slot.{Slot}
use Rattle.smv_resolve.specs.Resolved.{Resolved, part_at}
use Rattle.smv_meaning.specs.declared.outcome.Evaluation.{Evaluation}
use Rattle.smv_meaning.specs.Formulas.{fault_in, formula_fault, is_known_formula}
use Rattle.smv_meaning.specs.Runs.{is_given}

-- The edge is true where some part of the formula faults, in the state s with the inputs u. Where there is no edge, or
-- where a part is neither TRUE nor FALSE nor a fault, nothing is told.
abbrev pub TellsFormula : (ℕ → Bool) → List Slot → List Value → List Value → Option Edge → Resolved → Type 0
TellsFormula v slots s u None r = Unit {0}
TellsFormula v slots s u (Some e) r = is_known_formula slots s u r ≡ true → edge_value v e ≡ is_some (formula_fault slots s u r)

-- so it is of each of these
pub record TellsFormulas (v : ℕ → Bool) (slots : List Slot) (s u : List Value) (edges : List (Option Edge)) (parts : List Resolved) : Type 0 where
  pub long : length edges ≡ length parts
  pub each : (k : ℕ) → TellsFormula v slots s u (slice_index_or edges k None) (part_at parts k)

-- Of formulas that all are known, the edge is true where one has a part that faults.
abbrev pub TellsSome : (ℕ → Bool) → List Slot → List Value → List Value → Option Edge → List Resolved → Type 0
TellsSome v slots s u None rs = Unit {0}
TellsSome v slots s u (Some e) rs = list_all (is_known_formula slots s u) rs ≡ true → edge_value v e ≡ list_any (λ r. is_some (formula_fault slots s u r)) rs

-- the edge is true where the outcome is a fault, if it is given
abbrev pub TellsOwn : (ℕ → Bool) → Option Edge → Evaluation → Type 0
TellsOwn v None o = Unit {0}
TellsOwn v (Some e) o = is_given o ≡ true → edge_value v e ≡ is_some (fault_in o)

-- the edge, if there is one, leads to a node of the graph
abbrev pub StandsIfAny : List GraphNode → Option Edge → Type 0
StandsIfAny g None = Unit {0}
StandsIfAny g (Some e) = Stands g e

abbrev pub AllStandIfAny : List GraphNode → List (Option Edge) → Type 0
AllStandIfAny g edges = All (StandsIfAny g) edges
