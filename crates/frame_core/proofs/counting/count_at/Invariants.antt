use Rattle.std.proofs.Common.{◌≡◌, ◌≤◌, take}
use Rattle.std.specs.List.{count_by}
use Rattle.frame_core.specs.Counting.{is_live_at}
use Rattle.frame_core.proofs.counting.count_at.Given as goal

abbrev pub invariant-loop-n : goal.invariant-loop-n
invariant-loop-n l = record {
  value : l.count ≡ count_by (is_live_at l.level) (take l.n l.lemmas);
  small : l.count ≤ l.n;
}
