-- What the items so far ask is asked.
use Rattle.std.proofs.Common.{◌≡◌, ℕ, Bool, List, ◌&&◌, take, true}
use Rattle.bit_graph.specs.Growth.{Extends}
use Rattle.bit_graph.specs.Meaning.{Consistent}
use Rattle.bit_clauses.specs.Asserted.{EithersStand, all_hold}
use Rattle.smv_meaning.specs.declared.outcome.Evaluation.{Evaluation}
use Rattle.bit_outcomes.specs.Telling.{AllTold, TellsAll}
use Rattle.bit_conditions.specs.Demands.{all_clear, all_met}
use Rattle.bit_conditions.proofs.asking.ask_items.Given as goal

abbrev pub invariant-loop-item : goal.invariant-loop-item
invariant-loop-item l = record {
  extends : Extends l.initial.graph l.graph;
  there : AllTold l.graph l.there;
  here : AllTold l.graph l.here;
  stand : EithersStand l.graph l.asked.items;
  holds : (v : ℕ → Bool) (ps os : List Evaluation) → Consistent v l.graph → TellsAll v l.there ps → TellsAll v l.here os → all_clear l.when ps os l.items ≡ true →
      all_hold v l.asked.items ≡ (all_hold v l.initial.asked.items && all_met l.when ps os (take l.item-index l.items));
}
