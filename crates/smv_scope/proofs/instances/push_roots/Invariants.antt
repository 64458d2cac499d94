-- The roots from this number on stand there.
use Rattle.std.proofs.Common.{◌≡◌, ◌++◌, drop, reverse}
use Rattle.smv_scope.specs.Instantiations.{instances_by}
use Rattle.smv_scope.proofs.Preorder.{rooted}
use Rattle.smv_scope.proofs.instances.push_roots.Given as goal

abbrev pub invariant-loop-k : goal.invariant-loop-k
invariant-loop-k l = reverse l.roots ≡ rooted l.depth (instances_by l.at (drop l.k l.list)) ++ reverse l.initial.roots
