-- The limits of the dimensions so far.
use Rattle.std.proofs.Common.{◌≡◌, map, take}
use Rattle.smv_declared.specs.Refusals.{dimension_limits}
use Rattle.smv_declared.proofs.limits.dimension_limits.Given as goal

abbrev pub invariant-loop-dimension : goal.invariant-loop-dimension
invariant-loop-dimension l = l.all ≡ map (dimension_limits l.scope.program l.at) (take l.dimension-index l.dimensions)
