-- What is told of the conditions and branches from here on.
use Rattle.std.proofs.Common.{◌*◌, ℕ, Bool, List, drop}
use Rattle.bit_graph.specs.Growth.{Extends}
use Rattle.bit_graph.specs.Meaning.{Consistent}
use Rattle.smv_tree.specs.declared.place.Place.{Place}
use Rattle.smv_value.specs.declared.value.FaultRule.{FaultRule}
use Rattle.smv_meaning.specs.declared.outcome.Evaluation.{Evaluation}
use Rattle.smv_meaning.specs.Outcomes.{choice}
use Rattle.bit_outcomes.specs.Telling.{AllTold, Tells, TellsAll, ToldStands}
use Rattle.bit_outcomes.proofs.choosing.values_behind.Given as goal

abbrev pub invariant-pairs : goal.invariant-pairs
invariant-pairs l = record {
  extends : Extends l.initial.graph l.graph;
  operands_stand : AllTold l.graph l.operands;
  rest_stands : ToldStands l.graph l.rest;
  told : (rule : FaultRule) (place : Place) (v : ℕ → Bool) (os : List Evaluation) → Consistent v l.graph → TellsAll v l.operands os → Tells v l.rest (choice rule place (drop (2 * l.i) os));
}
