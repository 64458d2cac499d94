-- What is left of the variables gives the refusal of all, and the types so far are counted.
use Rattle.std.proofs.Common.{◌≡◌, List, ◌++◌, drop, take}
use Rattle.std.specs.List.{flat_map}
use Rattle.smv_tree.specs.declared.tree.Variable.{Variable}
use Rattle.smv_verdicts.specs.Verdicts.{first_of}
use Rattle.smv_declared.specs.declared.variable_type.VariableType.{VariableType}
use Rattle.smv_declared.specs.Types.{types_with}
use Rattle.smv_declared.specs.Refusals.{variable_refusal}
use Rattle.smv_declared.specs.Tally.{Tallies}
use Rattle.smv_declared.proofs.declarations.add_variables.Given as goal

abbrev pub invariant-loop-variable : goal.invariant-loop-variable
invariant-loop-variable l = record {
  left : first_of (λ (v : Variable). variable_refusal l.scope.program l.at l.kind v) (drop l.variable-index l.variables)
      ≡ first_of (λ (v : Variable). variable_refusal l.scope.program l.at l.kind v) l.variables;
  added : (all : List VariableType) → Tallies all l.initial.tally →
      Tallies (all ++ flat_map (λ (v : Variable). types_with l.scope.program l.at v) (take l.variable-index l.variables)) l.tally;
}
