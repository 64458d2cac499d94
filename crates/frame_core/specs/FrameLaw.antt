-- The law of the frames (Bradley 2011, section 3; Een, Mishchenko, Brayton 2011).
use Rattle.std.specs.Prelude.{◌≡◌, ℕ, ◌-◌, ◌<◌, ◌≤◌, ◌⊎◌, Bool, true, false, List, [], length, slice_index_or, slice_set, All, Option, Some, None}
use Rattle.clause_core.specs.Literals.{Within}
use Rattle.clause_core.specs.Assignments.{ClauseTrue, assignment_of}
use Rattle.clause_core.specs.Systems.{TransitionSystem, FirstBits, StepBits, BadBits, NextIs}
use Rattle.frame_core.specs.declared.parts.Lemma.{Lemma}
use Rattle.frame_core.specs.declared.parts.Obligation.{Obligation}
use Rattle.frame_core.specs.declared.parts.Parent.{Parent}
use Rattle.frame_core.specs.Facts.{IsPart, IsFirstFlag}
use Rattle.frame_core.specs.Differences.{IsSameSystem}

-- the frames of some systems as data: a top for each of them
pub record FrameState : Type 0 where
  pub systems : List TransitionSystem
  pub lemmas : List Lemma
  pub tops : List ℕ
  pub obligations : List Obligation

-- for numbers past the last system
abbrev pub no_system : TransitionSystem
no_system = record { state_bits = 0; all_bits = 0; init = []; step = []; bad = []; good = []; fair = []; defs = [] }

-- system number j
abbrev pub system_at : List TransitionSystem → ℕ → TransitionSystem
system_at systems j = slice_index_or systems j no_system

-- the systems have the same numbers of bits, init and step clauses: only their bad and good clauses may differ
abbrev pub AreAlike : List TransitionSystem → Type 0
AreAlike systems = (j : ℕ) → j < length systems → IsSameSystem false (system_at systems 0) (system_at systems j)

-- the top of system j
abbrev pub top_at : List ℕ → ℕ → ℕ
top_at tops j = slice_index_or tops j 0

-- for numbers past the last lemma
abbrev pub no_lemma : Lemma
no_lemma = record { clause = []; level = 0; live = false }

-- lemma number n
abbrev pub lemma_at : List Lemma → ℕ → Lemma
lemma_at lemmas n = slice_index_or lemmas n no_lemma

-- x meets each lemma of at least this level
abbrev pub MeetsFrom : List Lemma → ℕ → (ℕ → Bool) → Type 0
MeetsFrom lemmas i x = (n : ℕ) → n < length lemmas → i ≤ (lemma_at lemmas n).level → ClauseTrue x (lemma_at lemmas n).clause

-- x is a state of frame i: of frame 0 the initial states are, of frame i those that meet each lemma of level i or more
abbrev pub InFrame : TransitionSystem → List Lemma → ℕ → (ℕ → Bool) → Type 0
InFrame sys lemmas i x = (i ≡ 0 → FirstBits sys x) × (0 < i → MeetsFrom lemmas i x)

-- a live lemma covers the other: it has a part of its literals and at least its level
abbrev pub Covers : Lemma → Lemma → Type 0
Covers m l = (m.live ≡ true) × IsPart m.clause l.clause × (l.level ≤ m.level)

-- for numbers past the last obligation
abbrev pub no_obligation : Obligation
no_obligation = record { system = 0; values = []; parent = None; first = false }

-- obligation number n
abbrev pub obligation_at : List Obligation → ℕ → Obligation
obligation_at obligations n = slice_index_or obligations n no_obligation

-- the state of these values leads to one that is bad for system j: it is bad, or a step leads to the state of an
-- earlier obligation of j
abbrev pub LeadsToBad : List TransitionSystem → List Obligation → ℕ → ℕ → List Bool → Option ℕ → Type 0
LeadsToBad systems obligations n j values None = All (ClauseTrue (assignment_of values)) (system_at systems j).bad
LeadsToBad systems obligations n j values (Some p) =
    (p < n) × ((obligation_at obligations p).system ≡ j) × All (ClauseTrue (assignment_of values)) (system_at systems j).step
    × NextIs (system_at systems j).state_bits (assignment_of values) (assignment_of (obligation_at obligations p).values)

-- what each obligation keeps
pub record IsObligation (systems : List TransitionSystem) (obligations : List Obligation) (n : ℕ) (o : Obligation) : Type 0 where
  pub of : o.system < length systems
  pub whole : length o.values ≡ (system_at systems o.system).all_bits
  pub leads : LeadsToBad systems obligations n o.system o.values o.parent
  pub flag : IsFirstFlag (system_at systems o.system) o.values o.first

-- the law of the lemmas
pub record LemmasHold (sys : TransitionSystem) (lemmas : List Lemma) : Type 0 where
  -- each lemma has a level of at least 1, and is over state bits
  pub above : (n : ℕ) → n < length lemmas → 0 < (lemma_at lemmas n).level
  pub within : (n : ℕ) → n < length lemmas → Within sys.state_bits (lemma_at lemmas n).clause
  -- initial states meet each lemma
  pub first : (n : ℕ) → n < length lemmas → (x : ℕ → Bool) → FirstBits sys x → ClauseTrue x (lemma_at lemmas n).clause
  -- a step from a state of the frame below ends in each lemma
  pub step : (n : ℕ) → n < length lemmas → (x y : ℕ → Bool) → InFrame sys lemmas ((lemma_at lemmas n).level - 1) x →
      StepBits sys x y → ClauseTrue y (lemma_at lemmas n).clause
  -- each retired lemma is covered by a live one
  pub covered : (n : ℕ) → n < length lemmas → (lemma_at lemmas n).live ≡ false →
      (m : ℕ) × (m < length lemmas) × Covers (lemma_at lemmas m) (lemma_at lemmas n)

-- no frame below the top has a bad state
abbrev pub IsSafe : TransitionSystem → List Lemma → ℕ → Type 0
IsSafe sys lemmas top = (i : ℕ) → i < top → (x : ℕ → Bool) → InFrame sys lemmas i x → BadBits sys x → ⊥

-- the law of the frames: the lemmas are shared, and each system has its top and its obligations
pub record FramesHold (f : FrameState) : Type 0 where
  pub some : 0 < length f.systems
  pub alike : AreAlike f.systems
  pub tops : length f.tops ≡ length f.systems
  pub lemmas : (j : ℕ) → j < length f.systems → LemmasHold (system_at f.systems j) f.lemmas
  pub safe : (j : ℕ) → j < length f.systems → IsSafe (system_at f.systems j) f.lemmas (top_at f.tops j)
  pub obligations : (n : ℕ) → n < length f.obligations → IsObligation f.systems f.obligations n (obligation_at f.obligations n)

-- the parent is a lemma here, with the same clause, and has at least this level
abbrev pub Stands : List Lemma → ℕ → Parent → Type 0
Stands lemmas least p =
    (p.number < length lemmas) × ((lemma_at lemmas p.number).clause ≡ p.clause) × (least ≤ (lemma_at lemmas p.number).level)

-- each parent stands here at this level, where it is not 0
abbrev pub AllStand : List Lemma → ℕ → List Parent → Type 0
AllStand lemmas least parents = 0 < least → All (Stands lemmas least) parents

-- the lemmas of at least this level are an inductive invariant that excludes bad states
pub record IsInvariant (sys : TransitionSystem) (lemmas : List Lemma) (i : ℕ) : Type 0 where
  pub first : (x : ℕ → Bool) → FirstBits sys x → MeetsFrom lemmas i x
  pub step : (x y : ℕ → Bool) → MeetsFrom lemmas i x → StepBits sys x y → MeetsFrom lemmas i y
  pub safe : (x : ℕ → Bool) → MeetsFrom lemmas i x → BadBits sys x → ⊥

-- lemma n is retired, or has at least this level
abbrev pub IsAsHigh : List Lemma → ℕ → ℕ → Type 0
IsAsHigh lemmas n level = ((lemma_at lemmas n).live ≡ false) ⊎ (level ≤ (lemma_at lemmas n).level)

-- the lemmas with lemma n at this level
abbrev pub raised_at : List Lemma → ℕ → ℕ → List Lemma
raised_at lemmas n level =
    slice_set lemmas n record { clause = (lemma_at lemmas n).clause; level = level; live = (lemma_at lemmas n).live }

-- the lemmas with lemma n retired
abbrev pub retired_at : List Lemma → ℕ → List Lemma
retired_at lemmas n =
    slice_set lemmas n record { clause = (lemma_at lemmas n).clause; level = (lemma_at lemmas n).level; live = false }
