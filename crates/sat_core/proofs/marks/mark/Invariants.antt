use Rattle.std.proofs.Common.{take, ◌≡◌, ◌≤◌, ◌+◌}
use Rattle.sat_core.specs.Positions.{MarksAdded, level_marks}
use Rattle.sat_core.specs.Searching.{LowListed, OnlyNew}
use Rattle.sat_core.proofs.marks.mark.Given as goal

abbrev pub invariant-loop-x : goal.invariant-loop-x
invariant-loop-x l =
    record {
      added : MarksAdded l.positions (take l.x-index l.c) l.skip l.initial.marks l.marks;
      counted : level_marks l.marks l.floor ≡ level_marks l.initial.marks l.floor + l.more;
      small : l.more ≤ l.x-index;
      only : OnlyNew l.positions l.c l.x-index l.skip l.initial.marks l.marks;
      low : LowListed l.marks l.floor l.low.items;
    }
