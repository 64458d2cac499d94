-- One list for each slot so far.
use Rattle.std.proofs.Common.{◌≡◌, replicate, []}
use Rattle.smv_flat.proofs.graph.empty_lists.Given as goal

abbrev pub invariant-loop-k : goal.invariant-loop-k
invariant-loop-k l = l.lists.items ≡ replicate l.k []
