-- The spots so far, and those that are to come.
use Rattle.std.proofs.Common.{◌≡◌, ◌++◌, drop}
use Rattle.smv_scope.specs.Modules.{variables_in}
use Rattle.smv_scope.specs.Symbols.{spots_of}
use Rattle.smv_scope.proofs.symbols.push_variable_spots.Given as goal

abbrev pub invariant-loop-k : goal.invariant-loop-k
invariant-loop-k l = l.spots ++ spots_of variables_in l.k (drop l.k l.sections) ≡ l.initial.spots ++ spots_of variables_in 0 l.sections
