-- What is left of the variables gives the refusal of all.
use Rattle.std.proofs.Common.{◌≡◌, drop}
use Rattle.smv_verdicts.specs.Verdicts.{first_of}
use Rattle.smv_declared.specs.Closed.{read, refusal_of}
use Rattle.smv_declared.proofs.declarations.judge_variables.Given as goal

abbrev pub invariant-loop-x : goal.invariant-loop-x
invariant-loop-x l = first_of (refusal_of l.scope.program l.at) (read (drop l.x-index l.variables)) ≡ first_of (refusal_of l.scope.program l.at) (read l.variables)
