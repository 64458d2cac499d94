-- What stands there and what is to come are all, and those that have values are counted.
use Rattle.std.proofs.Common.{◌≡◌, ◌≤◌, ◌++◌, drop, take}
use Rattle.smv_scope.specs.Holders.{held_by}
use Rattle.smv_scope.specs.Symbols.{ranks_from}
use Rattle.smv_scope.proofs.Variables.{lent}
use Rattle.smv_scope.proofs.holders.push_ranks.Given as goal

abbrev pub invariant-loop-x : goal.invariant-loop-x
invariant-loop-x l = record {
  whole : l.ranks ++ ranks_from l.count (lent (drop l.x-index l.variables)) ≡ l.initial.ranks ++ ranks_from 0 (lent l.variables);
  counted : l.count ≡ held_by (lent (take l.x-index l.variables));
  few : l.count ≤ l.x-index;
}
