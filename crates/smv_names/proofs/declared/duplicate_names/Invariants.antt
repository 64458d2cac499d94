-- What is left of the modules gives the refusal of all.
use Rattle.std.proofs.Common.{◌≡◌, drop, []}
use Rattle.smv_tree.specs.declared.tree.Module.{Module}
use Rattle.smv_tree.specs.declared.refusal.Rule.TheVariants as rule
use Rattle.smv_verdicts.specs.Verdicts.{first_of}
use Rattle.smv_names.specs.Declarations.{repeated, declared_names, duplicate_names}
use Rattle.smv_names.proofs.declared.duplicate_names.Given as goal

abbrev pub invariant-loop-m : goal.invariant-loop-m
invariant-loop-m l = first_of (λ (m : Module). repeated rule.DuplicateName [] (declared_names m)) (drop l.m-index l.m-items) ≡ duplicate_names l.program
