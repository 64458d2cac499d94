-- What is left of the sections gives the refusal of all, and the types so far are counted.
use Rattle.std.proofs.Common.{◌≡◌, List, ◌++◌, drop, take}
use Rattle.std.specs.List.{flat_map}
use Rattle.smv_verdicts.specs.Verdicts.{first_of}
use Rattle.smv_declared.specs.declared.variable_type.VariableType.{VariableType}
use Rattle.smv_declared.specs.Types.{types_in}
use Rattle.smv_declared.specs.Refusals.{types_refusal_in}
use Rattle.smv_declared.specs.Tally.{Tallies}
use Rattle.smv_declared.proofs.declarations.add_sections.Given as goal

abbrev pub invariant-loop-section : goal.invariant-loop-section
invariant-loop-section l = record {
  left : first_of (types_refusal_in l.scope.program l.at) (drop l.section-index l.sections) ≡ first_of (types_refusal_in l.scope.program l.at) l.sections;
  added : (all : List VariableType) → Tallies all l.initial.tally → Tallies (all ++ flat_map (types_in l.scope.program l.at) (take l.section-index l.sections)) l.tally;
}
