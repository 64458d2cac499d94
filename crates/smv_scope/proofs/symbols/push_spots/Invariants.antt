-- The spots so far.
use Rattle.std.proofs.Common.{◌≡◌, ◌++◌}
use Rattle.smv_scope.specs.Symbols.{spots_in}
use Rattle.smv_scope.proofs.symbols.push_spots.Given as goal

abbrev pub invariant-loop-index : goal.invariant-loop-index
invariant-loop-index l = l.spots ≡ l.initial.spots ++ spots_in l.section l.index
