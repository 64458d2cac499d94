use Rattle.std.proofs.Common.{◌≡◌, take}
use Rattle.cert_make.proofs.trimming.renumbered.Given as goal

abbrev pub invariant-loop-k : goal.invariant-loop-k
invariant-loop-k l = record { same : l.log.steps ≡ take l.k l.steps.steps }
