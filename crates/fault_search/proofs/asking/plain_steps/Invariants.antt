use Rattle.std.proofs.Common.{◌≡◌, [], take}
use Rattle.std.specs.List.{All}
use Rattle.fault_search.proofs.asking.plain_steps.Given as goal

abbrev pub invariant-loop-k : goal.invariant-loop-k
invariant-loop-k l = record { steps : l.steps.steps ≡ take l.k l.log; hints : All (λ x. x ≡ []) l.steps.hints }
