-- The rules of names, in the order in which they are judged: an own choice of this project.
use Rattle.std.specs.Prelude.{◌≡◌, Option}
use Rattle.smv_tree.specs.declared.refusal.Refusal.{Refusal}
use Rattle.smv_tree.specs.declared.tree.Program.{Program}
use Rattle.smv_verdicts.specs.Verdicts.{Verdict, Exactly, Then}
use Rattle.smv_names.specs.Declarations.{declared_refusal}
use Rattle.smv_names.specs.declared.reached.UseRule.TheVariants as asked
use Rattle.smv_names.specs.Reached.{too_many_instances, uses_verdict}
use Rattle.smv_names.specs.Named.{unknown_names}
use Rattle.smv_names.specs.Defined.{definitions_verdict}

-- what is right to say of a program by the rules of its modules, which need no instances
unfoldable pub module_rules_verdict : Program → Verdict
module_rules_verdict p =
    Then (Exactly (declared_refusal p))
    (Then (uses_verdict asked.Unknown p)
    (Then (uses_verdict asked.Cyclic p)
    (uses_verdict asked.Miscounted p)))

-- what is right to say of the names of its instances
unfoldable pub instance_names_verdict : Program → Verdict
instance_names_verdict p = Then (Exactly (unknown_names p)) (definitions_verdict p)

-- what is right to say of a program by its names: instances are laid out where its modules break no rule
unfoldable pub names_verdict : Program → Verdict
names_verdict p = Then (module_rules_verdict p) (Then (Exactly (too_many_instances p)) (instance_names_verdict p))

-- what is right to say of a program by its names is one thing
abbrev pub AreNamesJudgedOnce : Type 0
AreNamesJudgedOnce = (p : Program) (r s : Option Refusal) → names_verdict p r → names_verdict p s → r ≡ s
