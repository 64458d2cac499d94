-- What a source and a sink in memory hold, and what one call makes of it.
use Rattle.std.specs.Prelude.{ℕ, List, ◌++◌, drop, take, Result, Ok, Err}
use Rattle.outside.specs.declared.Failed.{Failed as ReadFailure}
use Rattle.outside.specs.declared.Stop.{Stop}
use Rattle.outside.specs.declared.Stop.TheVariants.{Failed, NoMemory}
use Rattle.outside.specs.Causes.{next_count}

-- a source: the bytes still to come, the most that a read takes, the calls so far, the calls that fail, and how many
-- failed
pub record Input : Type 0 where
  pub left : List ℕ
  pub chunk : ℕ
  pub calls : ℕ
  pub failing : List ℕ
  pub faults : ℕ

-- a sink: the bytes taken so far, the most that a write takes, the calls so far, the calls that fail, and how many
-- failed
pub record Output : Type 0 where
  pub taken : List ℕ
  pub chunk : ℕ
  pub calls : ℕ
  pub failing : List ℕ
  pub faults : ℕ

-- a source after a read: one more call, the bytes given are gone, and a failure is counted
abbrev pub after_read : Input → Result ℕ ReadFailure → Input
after_read s (Ok n) = record s { left = drop n s.left; calls = next_count s.calls }
after_read s (Err e) = record s { calls = next_count s.calls; faults = next_count s.faults }

-- a sink after a write of a piece: one more call, the bytes taken are added, and a failure is counted
abbrev pub after_write : Output → List ℕ → Result ℕ Stop → Output
after_write s piece (Ok n) = record s { taken = s.taken ++ take n piece; calls = next_count s.calls }
after_write s piece (Err Failed) = record s { calls = next_count s.calls; faults = next_count s.faults }
after_write s piece (Err NoMemory) = record s { calls = next_count s.calls }
