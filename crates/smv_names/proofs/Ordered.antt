-- The rules one after another.
use Rattle.std.proofs.Common.{◌≡◌, inr, Option, None, Result, Ok, Err, sym}
use Rattle.smv_tree.specs.declared.refusal.Refusal.{Refusal}
use Rattle.smv_tree.specs.declared.refusal.TextStop.{TextStop}
use Rattle.smv_tree.specs.declared.refusal.TextStop.TheVariants.{Refused, NoMemory}
use Rattle.smv_tree.specs.declared.tree.Program.{Program}
use Rattle.smv_names.specs.declared.reached.UseRule.TheVariants as asked
use Rattle.smv_verdicts.specs.Verdicts.{Verdict, Exactly, Then, Judges, Gives}
use Rattle.smv_names.specs.Declarations.{declared_refusal}
use Rattle.smv_names.specs.Reached.{uses_verdict}
use Rattle.smv_names.specs.Named.{unknown_names}
use Rattle.smv_names.specs.Defined.{definitions_verdict}
use Rattle.smv_names.specs.Rules.{module_rules_verdict, instance_names_verdict}
use Rattle.smv_names.proofs.Saying.{Stops, then_stops}

-- the code stops with what a rule says
pub known_stops : (A : Type 0) (known : Option Refusal) (e : TextStop) → (let result : Result A TextStop = Err e in Judges result known) → Stops e (Exactly known)
unfolding Stops
known_stops A known (Refused r) h = sym h
known_stops A known NoMemory h = tt

-- the rules on the uses of modules
abbrev pub of_uses : Program → Verdict
of_uses p = Then (uses_verdict asked.Unknown p) (Then (uses_verdict asked.Cyclic p) (uses_verdict asked.Miscounted p))

module _ (p : Program) where
  -- a declaration breaks a rule
  pub declared_stops : (e : TextStop) → Stops e (Exactly (declared_refusal p)) → Stops e (module_rules_verdict p)
  unfolding module_rules_verdict
  declared_stops e h = then_stops (Exactly (declared_refusal p)) (of_uses p) e h

  -- none does, and the code answers what the rules on uses say
  pub uses_give : {A : Type 0} → declared_refusal p ≡ None → (result : Result A TextStop) → Gives result (of_uses p) → Gives result (module_rules_verdict p)
  unfolding module_rules_verdict
  uses_give declared (Ok x) h = (sym declared, h)
  uses_give declared (Err (Refused r)) h = inr (sym declared, h)
  uses_give declared (Err NoMemory) h = tt

  -- a name leads nowhere
  pub unknown_stops : (e : TextStop) → Stops e (Exactly (unknown_names p)) → Stops e (instance_names_verdict p)
  unfolding instance_names_verdict
  unknown_stops e h = then_stops (Exactly (unknown_names p)) (definitions_verdict p) e h

  -- none does, and the code answers what the rule on definitions says
  pub definitions_give : {A : Type 0} → unknown_names p ≡ None → (result : Result A TextStop) → Gives result (definitions_verdict p) → Gives result (instance_names_verdict p)
  unfolding instance_names_verdict
  definitions_give known (Ok x) h = (sym known, h)
  definitions_give known (Err (Refused r)) h = inr (sym known, h)
  definitions_give known (Err NoMemory) h = tt
