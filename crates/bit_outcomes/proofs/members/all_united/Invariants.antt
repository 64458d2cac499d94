-- The members of the operands so far.
use Rattle.std.proofs.Common.{ℕ, Bool, List, [], take}
use Rattle.bit_graph.specs.Growth.{Extends}
use Rattle.bit_graph.specs.Meaning.{Consistent, Stands}
use Rattle.smv_meaning.specs.declared.outcome.Evaluation.{Evaluation}
use Rattle.smv_meaning.specs.Outcomes.{united}
use Rattle.bit_outcomes.specs.Telling.{AllTold, MembersStand, TellsAll, TellsSet}
use Rattle.bit_outcomes.proofs.members.all_united.Given as goal

abbrev pub invariant-operands : goal.invariant-operands
invariant-operands l = record {
  extends : Extends l.initial.graph l.graph;
  operands_stand : AllTold l.graph l.operands;
  made_stands : Stands l.graph l.made.fault × MembersStand l.graph l.made.members;
  told : (v : ℕ → Bool) (os : List Evaluation) → Consistent v l.graph → TellsAll v l.operands os → TellsSet v l.made.fault l.made.members (united [] (take l.i os));
}
