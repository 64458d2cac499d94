use Rattle.std.proofs.Common.{take, length, ◌≡◌, ◌≤◌}
use Rattle.sat_prop.specs.Trails.{ValuesMatch}
use Rattle.sat_prop.proofs.steps.clear_from.Given as goal

abbrev pub invariant-loop-p : goal.invariant-loop-p
invariant-loop-p l =
    record {
      values : ValuesMatch l.values.items (take l.p l.literals);
      vars : length l.values.items ≡ length l.initial.values.items;
      low : l.n ≤ l.p;
    }
