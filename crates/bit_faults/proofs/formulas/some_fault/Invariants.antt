-- The edge is true where one of those so far is.
use Rattle.std.proofs.Common.{◌≡◌, ℕ, Bool, true, List, take}
use Rattle.std.specs.List.{list_all, list_any}
use Rattle.std.specs.Option.{is_some}
use Rattle.bit_graph.specs.Growth.{Extends}
use Rattle.bit_graph.specs.Meaning.{Consistent, Stands, edge_value}
use Rattle.smv_value.specs.declared.value.Value.{Value}
use Rattle.smv_slots.specs.declared.slot.Slot.{Slot}
use Rattle.smv_resolve.specs.Resolved.{Resolved}
use Rattle.smv_meaning.specs.Formulas.{formula_fault, is_known_formula}
use Rattle.bit_faults.specs.Formulas.{AllStandIfAny, TellsFormulas}
use Rattle.bit_faults.proofs.formulas.some_fault.Given as goal

abbrev pub invariant-loop-edge : goal.invariant-loop-edge
invariant-loop-edge l = record {
  extends : Extends l.initial.graph l.graph;
  any_stands : Stands l.graph l.any;
  stand : AllStandIfAny l.graph l.edges;
  told : (v : ℕ → Bool) (slots : List Slot) (s u : List Value) (parts : List Resolved) → Consistent v l.graph → TellsFormulas v slots s u l.edges parts →
      list_all (is_known_formula slots s u) (take l.edge-index parts) ≡ true → edge_value v l.any ≡ list_any (λ r. is_some (formula_fault slots s u r)) (take l.edge-index parts);
}
