-- Lassos of a system over bits that violate a formula over literals.
use Rattle.std.specs.Prelude.{◌≡◌, ℕ, ◌+◌, ◌-◌, ◌*◌, ◌<◌, ◌≤◌, nat_lt, if◌then◌else◌, Bool, List, [], length, All, slice_index_or}
use Rattle.clause_core.specs.declared.literal.Lit.{Lit}
use Rattle.clause_core.specs.Assignments.{assignment_of, ClauseTrue}
use Rattle.clause_core.specs.Systems.{TransitionSystem, FirstBits, NextIs}
use Rattle.ltl_meaning.specs.Ltl.{Ltl}
use Rattle.ltl_monitor.specs.FairLasso.{Violates}
use Rattle.ltl_monitor.specs.Lassos.{IsLasso, IsFair, word_of}
use Rattle.ltl_monitor.specs.States.{Extends, justice_of}

-- with the values that definitions give, the states xs of a lasso meet each JUSTICE in the loop, and not the formula
abbrev pub ViolatesAlong : TransitionSystem → Ltl → List Lit → (ℕ → ℕ → Bool) → ℕ → ℕ → Type 0
ViolatesAlong sys f atoms xs n l =
    (values : ℕ → ℕ → Bool) → ((i : ℕ) → Extends sys (xs i) (values i)) → Violates (justice_of sys atoms) f (word_of sys atoms values n l) n l

-- n states are a lasso of the system that goes on at l, and violate the formula
pub record IsViolating (sys : TransitionSystem) (f : Ltl) (atoms : List Lit) (xs : ℕ → ℕ → Bool) (n l : ℕ) : Type 0 where
  pub lasso : IsLasso sys xs n l
  pub violates : ViolatesAlong sys f atoms xs n l

-- no lasso violates the formula
abbrev pub NeverViolated : TransitionSystem → Ltl → List Lit → Type 0
NeverViolated sys f atoms = (xs : ℕ → ℕ → Bool) (n l : ℕ) → IsViolating sys f atoms xs n l → ⊥

-- none does whose states, with h passes more of its loop, are at most so many
abbrev pub NeverViolatedWithin : TransitionSystem → Ltl → List Lit → ℕ → ℕ → Type 0
NeverViolatedWithin sys f atoms h bound =
    (xs : ℕ → ℕ → Bool) (n l : ℕ) → n + h * (n - l) ≤ bound → IsViolating sys f atoms xs n l → ⊥

-- no fair lasso of the system has n states
abbrev pub HasNoneOf : TransitionSystem → ℕ → Type 0
HasNoneOf m n = (xs : ℕ → ℕ → Bool) (l : ℕ) → IsLasso m xs n l → IsFair m xs n l → ⊥

-- the values of row i
abbrev pub row_at : List (List Bool) → ℕ → ℕ → Bool
row_at rows i = assignment_of (slice_index_or rows i [])

-- the row after row i, where the last is followed by the one at start
abbrev pub row_after : List (List Bool) → ℕ → ℕ → ℕ
row_after rows start i = if nat_lt (i + 1) (length rows) then i + 1 else start

-- rows of values for all bits, one for each state of a lasso, each of which meets the step clauses with the state of
-- the row after it, and which violate the formula
pub record AreViolating (sys : TransitionSystem) (f : Ltl) (atoms : List Lit) (rows : List (List Bool)) (start : ℕ) : Type 0 where
  pub inside : start < length rows
  pub full : All (λ (row : List Bool). length row ≡ sys.all_bits) rows
  pub first : FirstBits sys (row_at rows 0)
  pub steps : (i : ℕ) → i < length rows → All (ClauseTrue (row_at rows i)) sys.step
  pub next : (i : ℕ) → i < length rows → NextIs sys.state_bits (row_at rows i) (row_at rows (row_after rows start i))
  pub violates : ViolatesAlong sys f atoms (row_at rows) (length rows) start
