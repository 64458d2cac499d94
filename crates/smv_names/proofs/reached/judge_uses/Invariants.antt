-- What is said of the modules that are left is said of all.
use Rattle.std.proofs.Common.{Option, drop}
use Rattle.smv_tree.specs.declared.refusal.Refusal.{Refusal}
use Rattle.smv_names.specs.Reached.{modules_verdict, uses_verdict}
use Rattle.smv_names.proofs.reached.judge_uses.Given as goal

abbrev pub invariant-loop-n : goal.invariant-loop-n
invariant-loop-n l = (r : Option Refusal) → modules_verdict l.which l.uses.program.now l.n (drop l.n l.m-items) r → uses_verdict l.which l.uses.program.now r
