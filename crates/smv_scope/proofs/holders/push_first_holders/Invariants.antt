-- What stands there and what is to come are all, and those that have values are counted.
use Rattle.std.proofs.Common.{◌≡◌, ◌++◌, drop, take}
use Rattle.smv_scope.specs.Holders.{held_in}
use Rattle.smv_scope.specs.Symbols.{first_holders_from}
use Rattle.smv_scope.proofs.holders.push_first_holders.Given as goal

abbrev pub invariant-loop-x : goal.invariant-loop-x
invariant-loop-x l = record {
  whole : l.firsts ++ first_holders_from l.program l.count (drop l.x-index l.tree) ≡ l.initial.firsts ++ first_holders_from l.program 0 l.tree;
  counted : l.count ≡ held_in l.program (take l.x-index l.tree);
}
