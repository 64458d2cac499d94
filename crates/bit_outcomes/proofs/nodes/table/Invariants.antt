-- What is told of the nodes so far.
use Rattle.std.proofs.Common.{ℕ, Bool, List, [], take}
use Rattle.bit_graph.specs.Growth.{Extends}
use Rattle.bit_graph.specs.Meaning.{Consistent}
use Rattle.smv_value.specs.declared.value.Value.{Value}
use Rattle.smv_meaning.specs.Tables.{outcomes_of}
use Rattle.bit_numbers.specs.Counts.{AllStandIn, AreDenoted}
use Rattle.bit_outcomes.specs.Telling.{AllTold, TellsAll}
use Rattle.bit_outcomes.proofs.nodes.table.Given as goal

abbrev pub invariant-loop-i : goal.invariant-loop-i
invariant-loop-i l = record {
  extends : Extends l.initial.graph l.graph;
  state : AllStandIn l.graph l.state;
  inputs : AllStandIn l.graph l.inputs;
  later : AllTold l.graph l.later;
  stand : AllTold l.graph l.made;
  told : (v : ℕ → Bool) (s u t : List Value) → Consistent v l.graph → AreDenoted v l.state s → AreDenoted v l.inputs u → TellsAll v l.later (outcomes_of l.slots t [] [] l.nodes)
      → TellsAll v l.made (outcomes_of l.slots s u t (take l.i l.nodes));
}
