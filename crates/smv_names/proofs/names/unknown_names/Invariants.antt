-- What is left of the instances gives the refusal of all, and what is noted is right.
use Rattle.std.proofs.Common.{◌≡◌, drop}
use Rattle.std.specs.Prelude.{nat_eq}
use Rattle.std.specs.HashMap.{get}
use Rattle.smv_scope.specs.declared.instance.Instance.{Instance}
use Rattle.smv_scope.specs.Modules.{sections_of}
use Rattle.smv_verdicts.specs.Verdicts.{first_of}
use Rattle.smv_names.specs.Named.{first_instance, unknown_in_sections, unknown_names}
use Rattle.smv_names.specs.OpenNames.{AreOpen}
use Rattle.smv_names.proofs.names.unknown_names.Given as goal

abbrev pub invariant-loop-n : goal.invariant-loop-n
invariant-loop-n l = record {
  left : first_of (λ r. r) (first_instance (λ n (x : Instance). unknown_in_sections l.scope.program n (sections_of l.scope.program x.of_module)) l.n (drop l.n l.scope.tree)) ≡ unknown_names l.scope.program;
  noted : AreOpen l.scope.program (get nat_eq l.noted);
}
