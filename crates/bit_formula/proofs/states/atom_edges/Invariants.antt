-- The edges so far.
use Rattle.std.proofs.Common.{◌≡◌, ◌&&◌, ℕ, Bool, List, map, take, true}
use Rattle.std.specs.List.{list_all}
use Rattle.bit_arith.specs.Number.{AllStand}
use Rattle.bit_graph.specs.Growth.{Extends}
use Rattle.bit_graph.specs.Meaning.{Consistent, Stands, edge_value}
use Rattle.bit_outcomes.specs.Telling.{AllTold, TellsAll}
use Rattle.smv_meaning.specs.declared.outcome.Evaluation.{Evaluation}
use Rattle.smv_meaning.specs.Runs.{is_given, is_true}
use Rattle.smv_meaning.specs.Tables.{outcome_at}
use Rattle.bit_formula.proofs.states.atom_edges.Given as goal

abbrev pub invariant-loop-atom : goal.invariant-loop-atom
invariant-loop-atom l = record {
  extends : Extends l.initial.graph l.graph;
  here : AllTold l.graph l.told;
  valid : Stands l.graph l.valid;
  stand : AllStand l.graph l.edges.items;
  value : (v : ℕ → Bool) (os : List Evaluation) → Consistent v l.graph
      → (edge_value v l.valid ≡ true → TellsAll v l.told os × (list_all (λ (a : ℕ). is_given (outcome_at os a)) l.atoms ≡ true))
      → map (edge_value v) l.edges.items ≡ map (λ (a : ℕ). edge_value v l.valid && is_true (outcome_at os a)) (take l.atom-index l.atoms);
}
