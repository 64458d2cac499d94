-- What is said of the sections that are left is said of all.
use Rattle.std.proofs.Common.{Option, drop}
use Rattle.smv_tree.specs.declared.refusal.Refusal.{Refusal}
use Rattle.smv_names.specs.Reached.{section_verdict}
use Rattle.smv_verdicts.specs.Verdicts.{Each}
use Rattle.smv_names.proofs.reached.judge_sections.Given as goal

abbrev pub invariant-loop-section : goal.invariant-loop-section
invariant-loop-section l =
    (r : Option Refusal) → Each (section_verdict l.which l.uses.program.now l.n) (drop l.section-index l.sections) r → Each (section_verdict l.which l.uses.program.now l.n) l.sections r
