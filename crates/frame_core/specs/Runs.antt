-- Runs to a bad state, with values of all bits at each state.
use Rattle.std.specs.Prelude.{◌≡◌, ℕ, ◌+◌, ◌-◌, ◌<◌, Bool, List, [], length, slice_index_or, All}
use Rattle.clause_core.specs.Assignments.{ClauseTrue, assignment_of}
use Rattle.clause_core.specs.Systems.{TransitionSystem, FirstBits, NextIs}

-- the assignment of row k
abbrev pub row_at : List (List Bool) → ℕ → ℕ → Bool
row_at rows k = assignment_of (slice_index_or rows k [])

-- the rows are values of all bits; the first state is an initial one, and each row's values are those of a step to the
-- next row's state
pub record IsBitRun (sys : TransitionSystem) (rows : List (List Bool)) : Type 0 where
  pub some : 0 < length rows
  pub whole : All (λ (r : List Bool). length r ≡ sys.all_bits) rows
  pub first : FirstBits sys (row_at rows 0)
  pub steps : (k : ℕ) → k + 1 < length rows → All (ClauseTrue (row_at rows k)) sys.step
  pub links : (k : ℕ) → k + 1 < length rows → NextIs sys.state_bits (row_at rows k) (row_at rows (k + 1))

-- the last row's values are those of a bad state
pub record IsBadRun (sys : TransitionSystem) (rows : List (List Bool)) : Type 0 where
  pub run : IsBitRun sys rows
  pub bad : All (ClauseTrue (row_at rows (length rows - 1))) sys.bad
