-- One mark for each node so far.
use Rattle.std.proofs.Common.{◌≡◌, replicate}
use Rattle.digraph.specs.declared.mark.Mark.TheVariants as M
use Rattle.digraph.proofs.find.new_marks.Given as goal

abbrev pub invariant-loop-k : goal.invariant-loop-k
invariant-loop-k l = l.marks.items ≡ replicate l.k M.New
