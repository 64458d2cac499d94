-- The dimensions so far are the same in each instance.
use Rattle.std.proofs.Common.{take}
use Rattle.smv_declared.specs.Closed.{AreClosedDimensions}
use Rattle.smv_declared.proofs.closed.are_closed_dimensions.Given as goal

abbrev pub invariant-loop-dimension : goal.invariant-loop-dimension
invariant-loop-dimension l = AreClosedDimensions l.scope.program l.from (take l.dimension-index l.dimensions)
