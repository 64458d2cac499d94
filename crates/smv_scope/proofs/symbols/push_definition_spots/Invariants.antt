-- The spots so far, and those that are to come.
use Rattle.std.proofs.Common.{◌≡◌, ◌++◌, drop}
use Rattle.smv_scope.specs.Modules.{definitions_in}
use Rattle.smv_scope.specs.Symbols.{spots_of}
use Rattle.smv_scope.proofs.symbols.push_definition_spots.Given as goal

abbrev pub invariant-loop-k : goal.invariant-loop-k
invariant-loop-k l = l.spots ++ spots_of definitions_in l.k (drop l.k l.sections) ≡ l.initial.spots ++ spots_of definitions_in 0 l.sections
