-- Fair lassos with values for all bits of a system.
use Rattle.std.specs.Prelude.{◌≡◌, ℕ, ◌+◌, ◌<◌, Bool, List, [], length, All, slice_index_or, nat_lt, if◌then◌else◌}
use Rattle.clause_core.specs.Assignments.{assignment_of, ClauseTrue}
use Rattle.clause_core.specs.Systems.{TransitionSystem, NextIs}
use Rattle.ltl_monitor.specs.States.{IsOwnRow}
use Rattle.ltl_monitor.specs.Lassos.{IsLasso, IsFair}

-- values of all bits for each state, and the state that comes after the last
pub record Lasso : Type 0 where
  pub rows : List (List Bool)
  pub start : ℕ

-- the values of state i
abbrev pub state : Lasso → ℕ → ℕ → Bool
state r i = assignment_of (slice_index_or r.rows i [])

-- the state that comes after state i
abbrev pub after : Lasso → ℕ → ℕ
after r i = if nat_lt (i + 1) (length r.rows) then i + 1 else r.start

-- the values of each state are those of all bits, and meet the step clauses with the state after it
pub record KeepsSteps (m : TransitionSystem) (r : Lasso) : Type 0 where
  pub full : All (λ row. length row ≡ m.all_bits) r.rows
  pub steps : (i : ℕ) → i < length r.rows → All (ClauseTrue (state r i)) m.step
  pub next : (i : ℕ) → i < length r.rows → NextIs m.state_bits (state r i) (state r (after r i))

-- r is a fair lasso of n states of the system m
pub record IsFairLasso (m : TransitionSystem) (n : ℕ) (r : Lasso) : Type 0 where
  pub size : length r.rows ≡ n
  pub steps : KeepsSteps m r
  pub lasso : IsLasso m (state r) n r.start
  pub fair : IsFair m (state r) n r.start

-- own is the lasso r of the monitored system m, with values of the bits of the system that is monitored
pub record IsOwnLasso (sys m : TransitionSystem) (r own : Lasso) : Type 0 where
  pub size : length own.rows ≡ length r.rows
  pub start : own.start ≡ r.start
  pub rows : (i : ℕ) → i < length r.rows → IsOwnRow sys m (slice_index_or r.rows i []) (slice_index_or own.rows i [])

-- the system m has no fair lasso of n states
pub record HasNoFairLasso (m : TransitionSystem) (n : ℕ) : Type 0 where
  pub never : (xs : ℕ → ℕ → Bool) (l : ℕ) → IsLasso m xs n l → IsFair m xs n l → ⊥
