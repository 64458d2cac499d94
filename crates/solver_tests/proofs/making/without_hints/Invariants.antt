use Rattle.std.proofs.Common.{◌≡◌, [], take}
use Rattle.std.specs.List.{All}
use Rattle.solver_tests.proofs.making.without_hints.Given as goal

abbrev pub invariant-loop-k : goal.invariant-loop-k
invariant-loop-k l = record { steps : l.log.steps ≡ take l.k l.list; hints : All (λ x. x ≡ []) l.log.hints }
