use Rattle.std.proofs.Common.{ℕ, take}
use Rattle.sat_core.specs.Positions.{Marked}
use Rattle.sat_core.specs.Searching.{MarksPositives}
use Rattle.sat_core.proofs.positives.mark_positives.Given as goal

abbrev pub invariant-loop-l : goal.invariant-loop-l
invariant-loop-l l = record {
  kept : (v : ℕ) → Marked l.initial.positives v → Marked l.positives v;
  done : MarksPositives l.positives (take l.l-index l.c);
}
