-- The rules of names, types and kinds, in the order in which they are judged: an own choice of this project.
use Rattle.std.specs.Prelude.{◌≡◌, Option}
use Rattle.smv_tree.specs.declared.refusal.Refusal.{Refusal}
use Rattle.smv_tree.specs.declared.tree.Program.{Program}
use Rattle.smv_verdicts.specs.Verdicts.{Verdict, Exactly, Then, or_else}
use Rattle.smv_names.specs.Rules.{names_verdict}
use Rattle.smv_declared.specs.Refusals.{declared_refusal}
use Rattle.smv_types.specs.Kinds.{too_deep, too_many_slots, misused}

-- the refusal by the rules of declared types, of slots and of kinds
abbrev pub kinds_refusal : Program → Option Refusal
kinds_refusal p = or_else (declared_refusal p) (or_else (too_many_slots p) (misused p))

-- what is right to say of a program by its names, types and kinds: first the rules of names are judged, then depth
unfoldable pub types_verdict : Program → Verdict
types_verdict p = Then (names_verdict p) (Then (Exactly (too_deep p)) (Exactly (kinds_refusal p)))

-- what is right to say of a program is one thing
abbrev pub IsJudgedOnce : Type 0
IsJudgedOnce = (p : Program) (r s : Option Refusal) → types_verdict p r → types_verdict p s → r ≡ s
