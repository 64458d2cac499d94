-- What stands there and what is to come are the whole, and are not too many.
use Rattle.std.proofs.Common.{◌≡◌, ◌+◌, ◌-◌, ◌≤◌, ◌++◌, length, reverse}
use Rattle.smv_scope.specs.Instances.{subtree}
use Rattle.smv_scope.proofs.Preorder.{forest}
use Rattle.smv_scope.proofs.instances.subtree.Given as goal

abbrev pub invariant-loop-root : goal.invariant-loop-root
invariant-loop-root l = record {
  whole : l.tree ++ forest l.program (length l.tree) (reverse l.roots) ≡ subtree l.program l.fn.top.depth 0 l.fn.top.instance;
  few : length l.tree + length l.roots ≤ 100000;
}

abbrev pub decreases-loop-root : goal.decreases-loop-root
decreases-loop-root l = 100000 - length l.tree
