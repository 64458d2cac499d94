-- What the check of a log says.
use Rattle.std.specs.Prelude.{◌≡◌, ℕ, ◌<◌, ◌⊎◌, List, length}
use Rattle.clause_core.specs.declared.literal.Lit.{Lit}
use Rattle.clause_core.specs.Derivations.{StepHolds, AllStepsBelow, EndsEmpty, Derives}
use Rattle.rup_check.specs.declared.checking.LogVerdict.{LogVerdict}
use Rattle.rup_check.specs.declared.checking.LogVerdict.TheVariants.{Yes, No}

-- the first step that fails; at the log's length, the log does not end in the empty clause
abbrev pub FailsFirstAt : ℕ → List (List Lit) → List (List Lit) → ℕ → Type 0
FailsFirstAt vars cs log step =
    AllStepsBelow vars cs log step
    × (((step < length log) × (StepHolds vars cs log step → ⊥)) ⊎ ((step ≡ length log) × (EndsEmpty log → ⊥)))

-- Yes: the log derives the empty clause; No: it fails first at that step
abbrev pub VerdictSays : ℕ → List (List Lit) → List (List Lit) → LogVerdict → Type 0
VerdictSays vars cs log Yes = Derives vars cs log
VerdictSays vars cs log (No step) = FailsFirstAt vars cs log step
