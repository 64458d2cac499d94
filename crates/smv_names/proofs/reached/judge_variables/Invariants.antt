-- What is said of the variables that are left is said of all.
use Rattle.std.proofs.Common.{Option, drop}
use Rattle.smv_tree.specs.declared.refusal.Refusal.{Refusal}
use Rattle.smv_tree.specs.declared.tree.Variable.{Variable}
use Rattle.smv_names.specs.Reached.{use_verdict}
use Rattle.smv_verdicts.specs.Verdicts.{Each}
use Rattle.smv_names.proofs.reached.judge_variables.Given as goal

abbrev pub invariant-loop-variable : goal.invariant-loop-variable
invariant-loop-variable l =
    (r : Option Refusal) → Each (λ (v : Variable). use_verdict l.which l.uses.program.now l.n v v.declared) (drop l.variable-index l.variables) r
    → Each (λ (v : Variable). use_verdict l.which l.uses.program.now l.n v v.declared) l.variables r
