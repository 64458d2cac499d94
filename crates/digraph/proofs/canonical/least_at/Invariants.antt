-- The least of the nodes so far.
use Rattle.std.proofs.Common.{◌<◌, ◌≤◌, ℕ, length, slice_index}
use Rattle.digraph.proofs.canonical.least_at.Given as goal

abbrev pub invariant-loop-i : goal.invariant-loop-i
invariant-loop-i l = record {
  within : l.best < length l.cycle;
  least : (j : ℕ) → j < l.i → slice_index l.cycle l.best ≤ slice_index l.cycle j;
}
