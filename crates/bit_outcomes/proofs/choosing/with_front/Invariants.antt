-- What is told of the conditions and branches so far.
use Rattle.std.proofs.Common.{ℕ, Bool, List}
use Rattle.bit_graph.specs.Growth.{Extends}
use Rattle.bit_graph.specs.Meaning.{Consistent}
use Rattle.smv_meaning.specs.declared.outcome.Evaluation.{Evaluation}
use Rattle.bit_outcomes.specs.Fronts.{FrontStands, TellsFront}
use Rattle.bit_outcomes.specs.Telling.{AllTold, TellsAll, ToldStands}
use Rattle.bit_outcomes.proofs.OfFronts.{front_of}
use Rattle.bit_outcomes.proofs.choosing.with_front.Given as goal

abbrev pub invariant-pairs : goal.invariant-pairs
invariant-pairs l = record {
  extends : Extends l.initial.graph l.graph;
  operands_stand : AllTold l.graph l.operands;
  tail_stands : ToldStands l.graph l.tail.told;
  front_stands : FrontStands l.graph l.front;
  told : (v : ℕ → Bool) (os : List Evaluation) → Consistent v l.graph → TellsAll v l.operands os → TellsFront v l.front (front_of os l.i);
}
