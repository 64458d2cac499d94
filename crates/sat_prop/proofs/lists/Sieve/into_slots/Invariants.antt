use Rattle.std.proofs.Common.{◌≡◌, ◌≤◌, ◌-◌, ◌++◌, drop, length, take}
use Rattle.sat_prop.proofs.lists.Sieve.into_slots.Given as goal

abbrev pub invariant-loop-read : goal.invariant-loop-read
invariant-loop-read l =
    record {
      behind : l.kept ≤ l.read;
      upper : l.read ≤ length l.slots.items;
      same : take l.kept l.slots.items ++ drop l.read l.slots.items ≡ take l.initial.kept l.initial.slots.items ++ drop l.initial.read l.initial.slots.items;
    }

abbrev pub decreases-loop-read : goal.decreases-loop-read
decreases-loop-read l = length l.slots.items - l.read
