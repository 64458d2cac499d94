use Rattle.std.proofs.Common.{◌≤◌, length}
use Rattle.frame_core.specs.Facts.{IsPart}
use Rattle.frame_query.proofs.attempting.hinted.Given as goal

abbrev pub invariant-literals : goal.invariant-literals
invariant-literals l = record {
  only : IsPart l.both.items l.literals;
  inside : IsPart l.both.items l.hint;
  fewer : length l.both.items ≤ l.l-index;
}
