-- What stands there and what is to come are all.
use Rattle.std.proofs.Common.{◌≡◌, ◌++◌, drop}
use Rattle.std.specs.List.{flat_map}
use Rattle.smv_scope.specs.Enumerated.{symbols_in}
use Rattle.smv_scope.proofs.enumerated.push_symbols.Given as goal

abbrev pub invariant-loop-section : goal.invariant-loop-section
invariant-loop-section l = l.all ++ flat_map symbols_in (drop l.section-index l.sections) ≡ l.initial.all ++ flat_map symbols_in l.sections
