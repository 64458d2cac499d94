use Rattle.cert_make.specs.Trimming.{IsOfClausesOf}
use Rattle.cert_make.proofs.trimming.trimmed.Given as goal

abbrev pub invariant-loop-k : goal.invariant-loop-k
invariant-loop-k l = record { same : IsOfClausesOf l.cert l.to }
