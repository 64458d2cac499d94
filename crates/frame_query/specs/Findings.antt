-- What callers of queries see.
use Rattle.std.specs.Prelude.{◌≡◌, ◌⊎◌, ℕ, ◌-◌, ◌<◌, ◌≤◌, ⊤, Bool, true, false, List, length, All}
use Rattle.clause_core.specs.declared.literal.Lit.{Lit}
use Rattle.clause_core.specs.Assignments.{assignment_of}
use Rattle.clause_core.specs.Systems.{TransitionSystem}
use Rattle.frame_core.specs.declared.parts.Lemma.{Lemma}
use Rattle.frame_core.specs.Facts.{FoundStep, IsStep, IsPart}
use Rattle.frame_core.specs.FrameLaw.{lemma_at, system_at, InFrame, AllStand}
use Rattle.frame_query.specs.declared.outcomes.Relative.{Relative}
use Rattle.frame_query.specs.declared.outcomes.Relative.TheVariants as relative
use Rattle.frame_query.specs.declared.outcomes.Bads.{Bads}
use Rattle.frame_query.specs.declared.outcomes.Bads.TheVariants as bads
use Rattle.frame_query.specs.declared.outcomes.Noted.{Noted}
use Rattle.frame_query.specs.declared.outcomes.Noted.TheVariants as noted
use Rattle.frame_solver.specs.declared.stepping.Stepping.{Stepping}
use Rattle.frame_solver.specs.declared.stepping.Stepping.TheVariants as stepping
use Rattle.frame_solver.specs.Stepping.{IsStepOut, Ends}
use Rattle.frame_solver.specs.Firsts.{negation_of}
use Rattle.frame_solver.specs.Paying.{AskedQuery, Pays, AllDiffer, Firsts}
use Rattle.frame_solver.specs.Paying.{Bads as AskBads}

-- the systems, the lemmas, and learned clauses that later queries may use
pub record SolverView : Type 0 where
  pub systems : List TransitionSystem
  pub lemmas : List Lemma
  pub known : List (List Lit)

-- what a query about steps found is right; that a proof or a step holds its type keeps
abbrev pub FindsRelative : List TransitionSystem → List Lemma → List Lit → ℕ → ℕ → Bool → Relative → Type 0
FindsRelative systems lemmas clause level budget over (relative.Proved p) =
    (p.system ≡ system_at systems 0) × (p.clause ≡ clause) × (p.level ≡ level) × AllStand lemmas (level - 1) p.parents
FindsRelative systems lemmas clause level budget over (relative.Step s) =
    (s.system ≡ system_at systems 0) × IsStepOut (system_at systems 0) lemmas level clause s.values
FindsRelative systems lemmas clause level budget over (relative.Spent d b) = (d ≡ budget) × (b ≡ budget) × (over ≡ true)

-- what a query about bad states of system j found is right
abbrev pub FindsBad : List TransitionSystem → List Lemma → ℕ → ℕ → ℕ → Bool → Bads → Type 0
FindsBad systems lemmas j top budget over (bads.Clear c) = (c.system ≡ system_at systems j) × (c.level ≡ top) × AllStand lemmas top c.parents
FindsBad systems lemmas j top budget over (bads.Found f) =
    (f.system ≡ system_at systems j) × (f.is_step ≡ false) × InFrame (system_at systems j) lemmas top (assignment_of f.values)
FindsBad systems lemmas j top budget over (bads.Spent d b) = (d ≡ budget) × (b ≡ budget) × (over ≡ true)

-- these are the values of the state that was found
abbrev pub IsTheState : List Bool → Bads → Type 0
IsTheState values (bads.Clear c) = ⊤
IsTheState values (bads.Found f) = f.values ≡ values
IsTheState values (bads.Spent d b) = ⊤

-- the state that the step leads from, where it is known whether it is an initial one
abbrev pub FindsNoted : FoundStep → ℕ → Bool → Noted → Type 0
FindsNoted s budget over (noted.Found f) = f ≡ record { system = s.system; values = s.values; is_step = true; first = f.first }
FindsNoted s budget over (noted.Spent d b) = (d ≡ budget) × (b ≡ budget) × (over ≡ true)

-- at most two queries were asked, of bad states and of whether the state found is an initial one, and they were paid for
abbrev pub PaysBad : List TransitionSystem → List Lemma → List (List Lit) → List (List Lit) → List ℕ → List ℕ → ℕ → ℕ → (List Bool → Type 0) → Type 0
PaysBad systems lemmas old new before after j top IsState =
    (log : List AskedQuery)
    × (values : List Bool)
    × Pays systems lemmas old new before after log
    × (length log ≤ 2)
    × AllDiffer log
    × All (λ (a : AskedQuery). (a.question ≡ AskBads j top) ⊎ (a.question ≡ Firsts (negation_of values (system_at systems 0).state_bits))) log
    × IsState values

-- the lemmas are the first of the later ones, which may have been raised and retired since
pub record IsOlder (copy lemmas : List Lemma) : Type 0 where
  pub shorter : length copy ≤ length lemmas
  pub clause : (n : ℕ) → n < length copy → (lemma_at copy n).clause ≡ (lemma_at lemmas n).clause
  pub live : (n : ℕ) → n < length copy → (lemma_at lemmas n).live ≡ true → (lemma_at copy n).live ≡ true

-- what was found of steps, as callers see it
abbrev pub Tells : TransitionSystem → ℕ → List Lit → Stepping → Relative → Type 0
Tells sys level clause (stepping.Holds parents part) (relative.Proved p) =
    p ≡ record { system = sys; clause = clause; part = part.items; level = level; parents = parents.items }
Tells sys level clause (stepping.Holds parents part) (relative.Step s) = ⊥
Tells sys level clause (stepping.Holds parents part) (relative.Spent d b) = ⊥
Tells sys level clause (stepping.Leaves values) (relative.Proved p) = ⊥
Tells sys level clause (stepping.Leaves values) (relative.Step s) = s ≡ record { system = sys; values = values }
Tells sys level clause (stepping.Leaves values) (relative.Spent d b) = ⊥
Tells sys level clause (stepping.Spent d b) r = r ≡ relative.Spent d b

-- what the types of proofs and steps ask of what was found
abbrev pub Shows : TransitionSystem → ℕ → List Lit → Stepping → Type 0
Shows sys level clause (stepping.Holds parents part) = Ends sys level clause parents.items part.items × IsPart part.items clause
Shows sys level clause (stepping.Leaves values) = IsStep record { system = sys; values = values }
Shows sys level clause (stepping.Spent d b) = ⊤
