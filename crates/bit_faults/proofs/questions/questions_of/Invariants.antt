-- The questions of the items so far.
use Rattle.std.proofs.Common.{map, take}
use Rattle.bit_graph.specs.Meaning.{HasInputs}
use Rattle.smv_resolve.specs.Items.{item_by}
use Rattle.bit_faults.specs.Questions.{AreQuestions}
use Rattle.bit_faults.specs.Valuations.{TellsDomains, TellsValuation}
use Rattle.bit_faults.proofs.questions.questions_of.Given as goal

abbrev pub invariant-loop-item : goal.invariant-loop-item
invariant-loop-item l = record {
  inputs : HasInputs l.named l.graph;
  valuation : TellsValuation l.graph l.typed l.valuation;
  domains : TellsDomains l.graph l.typed.scope.program l.domains;
  made : AreQuestions l.typed.scope.program (map (item_by l.typed.nodes) (take l.item-index l.items)) l.made.items;
}
