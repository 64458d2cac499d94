-- When an answer of the outside may come: a fault is told just where the count of faults rose in the call.
use Rattle.std.specs.Prelude.{◌≡◌, ℕ, ◌+◌, ◌-◌, ◌^◌, ◌<◌, ◌≤◌, min, List, length, OnOk, OnErr, IfOk, Result, Ok, IsErrOf}
use Rattle.outside.specs.declared.Failed.{Failed as ReadFailure}
use Rattle.outside.specs.declared.Stop.{Stop}
use Rattle.outside.specs.declared.Stop.TheVariants.{Failed, NoMemory}

-- one more on a counter that stands still at the greatest u64
abbrev pub next_count : ℕ → ℕ
next_count n = min (n + 1) (2 ^ 64 - 1)

-- the count rose, or stands at the greatest u64
abbrev pub Rose : ℕ → ℕ → Type 0
Rose before now = next_count before ≤ now

-- the count never falls: a read fails only where it rose, and any other leaves it as it was
pub record HasReadCause (before now : ℕ) (result : Result ℕ ReadFailure) : Type 0 where
  pub later : before ≤ now
  pub failed : OnErr result (Rose before now)
  pub given : OnOk result (now ≡ before)

-- The count never falls: a write fails, or takes nothing of a piece that has bytes, only where it rose. A write that
-- takes some bytes leaves it as it was, and so does one that finds no memory.
pub record HasWriteCause (before now : ℕ) (piece : List ℕ) (result : Result ℕ Stop) : Type 0 where
  pub later : before ≤ now
  pub failed : IsErrOf result Failed → Rose before now
  pub stuck : result ≡ Ok 0 → 0 < length piece → Rose before now
  pub taken : IfOk result (λ n. 0 < n → now ≡ before)
  pub no_memory : IsErrOf result NoMemory → now ≡ before
