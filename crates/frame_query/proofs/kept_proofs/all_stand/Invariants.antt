use Rattle.std.proofs.Common.{◌≤◌, ℕ, take, All}
use Rattle.frame_core.specs.FrameLaw.{lemma_at}
use Rattle.frame_query.proofs.kept_proofs.all_stand.Given as goal

abbrev pub invariant-numbers : goal.invariant-numbers
invariant-numbers l = All (λ (k : ℕ). l.least ≤ (lemma_at l.lemmas k).level) (take l.k-index l.numbers)
