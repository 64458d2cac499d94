use Rattle.std.proofs.Common.{ℕ, ◌<◌}
use Rattle.frame_core.specs.Looking.{IsHeldBy}
use Rattle.frame_core.proofs.looking.some_holder.Given as goal

abbrev pub invariant-loop-n : goal.invariant-loop-n
invariant-loop-n l = (k : ℕ) → k < l.n → IsHeldBy l.lemmas l.clause l.level k → ⊥
