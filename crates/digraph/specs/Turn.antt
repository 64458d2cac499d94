-- A list from its least element on.
use Rattle.std.specs.Prelude.{◌≡◌, ℕ, ◌<◌, ◌≤◌, List, ◌++◌, length, slice_index, take, drop}

-- the list from its least element on, and then what stood before
pub record IsTurn (cycle result : List ℕ) : Type 0 where
  pub place : ℕ
  pub within : place < length cycle
  pub is : result ≡ drop place cycle ++ take place cycle
  pub least : (j : ℕ) → j < length cycle → slice_index cycle place ≤ slice_index cycle j
