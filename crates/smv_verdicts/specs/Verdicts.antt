-- What is said of a program by rules: the first refusal, if there is one.
use Rattle.std.specs.Prelude.{◌≡◌, ℕ, List, [], ◌∷◌, Option, None, Some, Result, Ok, Err}
use mathlib.Core.Logic.{◌⊎◌}
use Rattle.smv_tree.specs.declared.place.Place.{Place}
use Rattle.smv_tree.specs.declared.refusal.Refusal.{Refusal}
use Rattle.smv_tree.specs.declared.refusal.Rule.{Rule}
use Rattle.smv_tree.specs.declared.refusal.TextStop.{TextStop}
use Rattle.smv_tree.specs.declared.refusal.TextStop.TheVariants.{Refused, NoMemory}

-- the first refusal, or where there is none, the later one
abbrev pub or_else : Option Refusal → Option Refusal → Option Refusal
or_else (Some r) later = Some r
or_else None later = later

-- the first refusal that the rule gives of these
abbrev pub first_of : {A : Type 0} → (A → Option Refusal) → List A → Option Refusal
first_of rule [] = None
first_of rule (x ∷ xs) = or_else (rule x) (first_of rule xs)

-- a refusal without a detail
abbrev pub plain : Rule → Place → Refusal
plain r place = record { rule = r; place = place; detail = None }

-- a refusal whose detail is a name
abbrev pub detailed : Rule → Place → List ℕ → Refusal
detailed r place detail = record { rule = r; place = place; detail = Some detail }

-- what is right to say
abbrev pub Verdict : Type 1
Verdict = Option Refusal → Type 0

-- just this
abbrev pub Exactly : Option Refusal → Verdict
Exactly known r = r ≡ known

-- this refusal is right where this holds
abbrev pub Claim : Type 0 → Refusal → Verdict
Claim P known None = P → ⊥
Claim P known (Some r) = P × (r ≡ known)

-- the first verdict's refusal, or where it has none, the second's
abbrev pub Then : Verdict → Verdict → Verdict
Then first later None = first None × later None
Then first later (Some r) = first (Some r) ⊎ (first None × later (Some r))

-- the first refusal of these, in their order
abbrev pub Each : {A : Type 0} → (A → Verdict) → List A → Verdict
Each verdict [] r = r ≡ None
Each verdict (x ∷ xs) r = Then (verdict x) (Each verdict xs) r

-- what the code answers is right: it gives no refusal, or this one, or memory was refused
abbrev pub Judges : {A : Type 0} → Result A TextStop → Option Refusal → Type 0
Judges (Ok x) refusal = refusal ≡ None
Judges (Err (Refused r)) refusal = refusal ≡ Some r
Judges (Err NoMemory) refusal = Unit {0}

-- the same of a verdict
abbrev pub Gives : {A : Type 0} → Result A TextStop → Verdict → Type 0
Gives (Ok x) verdict = verdict None
Gives (Err (Refused r)) verdict = verdict (Some r)
Gives (Err NoMemory) verdict = Unit {0}
