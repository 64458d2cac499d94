use Rattle.std.proofs.Common.{ℕ, ◌≤◌, ◌<◌, ◌-◌, length}
use Rattle.frame_core.specs.Copies.{AreLevel}
use Rattle.frame_core.specs.FrameLaw.{lemma_at}
use Rattle.frame_core.proofs.lemma_list.Lemmas.next_change.Given as goal

abbrev pub invariant-lemmas : goal.invariant-lemmas
invariant-lemmas l =
    (l.from ≤ l.n)
    × (l.n ≤ length l.self)
    × ((m : ℕ) → l.from ≤ m → m < l.n → AreLevel (lemma_at l.self m) (lemma_at l.later m))

abbrev pub decreases-lemmas : goal.decreases-lemmas
decreases-lemmas l = length l.self - l.n
