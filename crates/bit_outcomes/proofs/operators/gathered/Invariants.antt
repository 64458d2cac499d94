-- The values of the operands so far.
use Rattle.std.proofs.Common.{ℕ, Bool, List, [], take}
use Rattle.bit_graph.specs.Growth.{Extends}
use Rattle.bit_graph.specs.Meaning.{Consistent, Stands}
use Rattle.smv_meaning.specs.declared.outcome.Evaluation.{Evaluation}
use Rattle.smv_meaning.specs.declared.outcome.Evaluation.TheVariants.{Values}
use Rattle.smv_meaning.specs.Outcomes.{operated}
use Rattle.bit_numbers.specs.Counts.{AllStandIn}
use Rattle.bit_outcomes.specs.Gathering.{TellsEach}
use Rattle.bit_outcomes.specs.Telling.{AllTold, TellsAll}
use Rattle.bit_outcomes.proofs.operators.gathered.Given as goal

abbrev pub invariant-operands : goal.invariant-operands
invariant-operands l = record {
  extends : Extends l.initial.graph l.graph;
  operands_stand : AllTold l.graph l.operands;
  made_stands : Stands l.graph l.made.fault × AllStandIn l.graph l.made.values;
  told : (v : ℕ → Bool) (os : List Evaluation) → Consistent v l.graph → TellsAll v l.operands os → TellsEach v l.made.fault l.made.values (operated Values [] (take l.i os));
}
