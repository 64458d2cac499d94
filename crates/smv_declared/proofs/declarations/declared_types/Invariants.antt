-- What is left of the instances gives the refusal of all, the types of those before are counted, and what is noted is right.
use Rattle.std.proofs.Common.{◌≡◌, drop, take}
use Rattle.std.specs.Prelude.{nat_eq}
use Rattle.std.specs.HashMap.{get}
use Rattle.smv_declared.specs.Closed.{AreJudged}
use Rattle.smv_declared.specs.Types.{types_below}
use Rattle.smv_declared.specs.Refusals.{types_refusal_below}
use Rattle.smv_declared.specs.Tally.{Tallies}
use Rattle.smv_declared.proofs.declarations.declared_types.Given as goal

abbrev pub invariant-loop-at : goal.invariant-loop-at
invariant-loop-at l = record {
  left : types_refusal_below l.scope.program l.at (drop l.at l.scope.tree) ≡ types_refusal_below l.scope.program 0 l.scope.tree;
  added : Tallies (types_below l.scope.program 0 (take l.at l.scope.tree)) l.tally;
  noted : AreJudged l.scope.program (get nat_eq l.judged);
}
