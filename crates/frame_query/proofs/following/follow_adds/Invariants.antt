use Rattle.std.proofs.Common.{◌≡◌, ◌≤◌, take, length}
use Rattle.frame_query.proofs.following.follow_adds.Given as goal

abbrev pub invariant-lemmas : goal.invariant-lemmas
invariant-lemmas l = (l.copy ≡ take l.n l.lemmas) × (length l.copy ≡ l.n) × (length l.fn.copy ≤ l.n)
