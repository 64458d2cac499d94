-- What stands there and what is to come are all.
use Rattle.std.proofs.Common.{◌≡◌, ◌++◌, drop}
use Rattle.smv_slots.specs.Slots.{holders_below}
use Rattle.smv_slots.proofs.slots.holders_of.Given as goal

abbrev pub invariant-loop-at : goal.invariant-loop-at
invariant-loop-at l = l.holders ++ holders_below l.scope.program l.at (drop l.at l.scope.tree) ≡ holders_below l.scope.program 0 l.scope.tree
