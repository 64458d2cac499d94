-- What stands there and what is to come are all.
use Rattle.std.proofs.Common.{◌≡◌, ◌++◌, drop}
use Rattle.smv_scope.specs.Enumerated.{symbols_from}
use Rattle.smv_scope.proofs.enumerated.push_symbols_by.Given as goal

abbrev pub invariant-loop-m : goal.invariant-loop-m
invariant-loop-m l = l.all ++ symbols_from l._tree l.m-counter (drop l.m-counter l.modules) ≡ l.initial.all ++ symbols_from l._tree 0 l.modules
