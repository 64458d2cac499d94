use Rattle.std.proofs.Common.{◌≡◌, ◌⊎◌, ◌<◌, ℕ, get_or}
use Rattle.sat_core.specs.Positions.{Marked}
use Rattle.sat_core.proofs.positives.free_var.Given as goal

abbrev pub invariant-loop-v : goal.invariant-loop-v
invariant-loop-v l = (k : ℕ) → k < l.v → Marked l.positives k → (get_or l.trail.values.items k 0 ≡ 1) ⊎ (get_or l.trail.values.items k 0 ≡ 2)
