-- The edges so far.
use Rattle.std.proofs.Common.{◌≡◌, ◌&&◌, ℕ, Bool, List, map, take, true}
use Rattle.std.specs.List.{list_all}
use Rattle.bit_graph.specs.Growth.{Extends}
use Rattle.bit_graph.specs.Meaning.{Consistent, Stands, edge_value}
use Rattle.bit_arith.specs.Number.{AllStand}
use Rattle.smv_resolve.specs.declared.item.Item.{Item}
use Rattle.smv_meaning.specs.declared.outcome.Evaluation.{Evaluation}
use Rattle.smv_meaning.specs.Runs.{is_given, is_true}
use Rattle.smv_meaning.specs.Tables.{outcome_at}
use Rattle.bit_outcomes.specs.Telling.{AllTold, TellsAll}
use Rattle.bit_conditions.proofs.justice.true_edges.Given as goal

abbrev pub invariant-loop-item : goal.invariant-loop-item
invariant-loop-item l = record {
  extends : Extends l.initial.graph l.graph;
  valid : Stands l.graph l.valid;
  here : AllTold l.graph l.told;
  stand : AllStand l.graph l.edges.items;
  told : (v : ℕ → Bool) (os : List Evaluation) → Consistent v l.graph → (edge_value v l.valid ≡ true → TellsAll v l.told os) →
      (edge_value v l.valid ≡ true → list_all (λ (x : Item). is_given (outcome_at os x.value)) l.items ≡ true) →
      map (edge_value v) l.edges.items ≡ map (λ (x : Item). edge_value v l.valid && is_true (outcome_at os x.value)) (take l.item-index l.items);
}
