use Rattle.std.proofs.Common.{◌≡◌, length}
use Rattle.smv_kinds.specs.Kinds.{chosen_after}
use Rattle.smv_kinds.proofs.sets.chosen_after.Given as goal

abbrev pub invariant-loop-rest : goal.invariant-loop-rest
invariant-loop-rest l = chosen_after l.kind l.rest ≡ chosen_after l.fn.first l.fn.operands

abbrev pub decreases-loop-rest : goal.decreases-loop-rest
decreases-loop-rest l = length l.rest
