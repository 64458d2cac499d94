use Rattle.std.proofs.Common.{◌≡◌, ◌≤◌, length}
use Rattle.frame_core.specs.Counting.{AreCounts}
use Rattle.frame_core.proofs.counting.count_below.Given as goal

abbrev pub invariant-levels : goal.invariant-levels
invariant-levels l = record {
  counted : AreCounts l.lemmas l.counts.items;
  longer : length l.fn.counts.items ≤ length l.counts.items;
  far : length l.counts.items ≡ l.i;
}
