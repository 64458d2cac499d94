-- What the search for a step's hints says.
use Rattle.std.specs.Prelude.{◌≡◌, ℕ, suc, ◌<◌, ◌⊎◌, Bool, true, false, List, [], ◌∷◌, ◌++◌, All, Contains, length, take, slice_index_or}
use Rattle.clause_core.specs.declared.literal.Lit.{Lit}
use Rattle.clause_core.specs.Propagation.{Follows, Settled}
use Rattle.clause_core.specs.Derivations.{StepHolds, AllStepsBelow, EndsEmpty, Derives}
use Rattle.clause_core.specs.Values.{holds, Grows, unset}
use Rattle.hinted_log.specs.Hints.{HintedLog, FollowsBy, IsHinted, Refutes}
use Rattle.rup_check.specs.declared.passes.Pass.{Pass}
use Rattle.rup_check.specs.declared.passes.Pass.TheVariants.{Conflict, Changed, Still}
use Rattle.rup_check.specs.declared.checking.Hints.{Hints}
use Rattle.rup_check.specs.declared.checking.Hints.TheVariants.{Found, No}
use Rattle.rup_check.specs.Chains.{Walks, IsTaut}
use Rattle.rup_check.specs.Verdicts.{FailsFirstAt}

-- from the values `start` the clauses that were found lead to the values v
abbrev pub LeadsTo : List (List Lit) → List ℕ → List ℕ → List ℕ → Type 0
LeadsTo cs start found v = (rest : List ℕ) → Walks cs v rest → Walks cs start (found ++ rest)

-- whatever led to the old values, with what was found since leads to the new
abbrev pub Carries : List (List Lit) → List ℕ → List ℕ → List ℕ → List ℕ → Type 0
Carries cs old found_old new found_new = (start : List ℕ) → LeadsTo cs start found_old old → LeadsTo cs start found_new new

-- the hints lead to a false clause; or fewer variables are unset; or nothing is left to do
abbrev pub SearchSays : List (List Lit) → List ℕ → List ℕ → List ℕ → List ℕ → Pass → Type 0
SearchSays cs old found_old new found_new Conflict = (start : List ℕ) → LeadsTo cs start found_old old → Walks cs start found_new
SearchSays cs old found_old new found_new Changed = (unset new < unset old) × Carries cs old found_old new found_new
SearchSays cs old found_old new found_new Still = (new ≡ old) × All (Settled (holds new)) cs

-- true: these are hints; false: unit propagation has come to rest without conflict
abbrev pub FoundSays : List (List Lit) → List ℕ → List ℕ → List ℕ → Bool → Type 0
FoundSays cs old new found true = Walks cs old found
FoundSays cs old new found false = Grows old new × All (Settled (holds new)) cs

-- the step and its hints are added
abbrev pub AddsStep : List (List Lit) → HintedLog → List Lit → HintedLog → Type 0
AddsStep cs old step new =
    (hints : List ℕ) × FollowsBy (cs ++ old.steps) step hints × (new ≡ record { steps = old.steps ++ step ∷ []; hints = old.hints ++ hints ∷ [] })

-- true: the step has a literal and its negation, and is left out, or it is added with hints; false: it does not follow
abbrev pub NextSays : List (List Lit) → HintedLog → List Lit → HintedLog → Bool → Type 0
NextSays cs old step new true = (IsTaut step × (new ≡ old)) ⊎ AddsStep cs old step new
NextSays cs old step new false = Follows (cs ++ old.steps) step → ⊥

-- the hinted steps are the first k of the log but for those that have a literal and its negation
pub record Keeps (log : List (List Lit)) (k : ℕ) (h : HintedLog) : Type 0 where
  pub level : length h.hints ≡ length h.steps
  pub there : All (Contains (take k log)) h.steps
  pub covered : All (λ c. Contains h.steps c ⊎ IsTaut c) (take k log)
  pub last : (j : ℕ) → k ≡ suc j → slice_index_or log j [] ≡ [] → EndsEmpty h.steps

-- Found: each step of the log follows, and these are the steps with their hints; No: this is the first that does not
-- follow
abbrev pub AllHintsSay : ℕ → List (List Lit) → List (List Lit) → Hints → Type 0
AllHintsSay vars cs log (Found h) = AllStepsBelow vars cs log (length log) × IsHinted vars cs h × Keeps log (length log) h
AllHintsSay vars cs log (No step) = AllStepsBelow vars cs log step × (step < length log) × (StepHolds vars cs log step → ⊥)

-- each step of the log is among these, or has a literal and its negation
abbrev pub Covers : List (List Lit) → List (List Lit) → Type 0
Covers steps log = All (λ c. Contains steps c ⊎ IsTaut c) log

-- Found: the log derives the empty clause, and these hinted steps show it; No: it fails first at that step
abbrev pub HintsSay : ℕ → List (List Lit) → List (List Lit) → Hints → Type 0
HintsSay vars cs log (Found h) = Derives vars cs log × Refutes vars cs h
HintsSay vars cs log (No step) = FailsFirstAt vars cs log step
