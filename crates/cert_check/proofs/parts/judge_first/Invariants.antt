use Rattle.std.proofs.Common.{◌≡◌}
use Rattle.cert_check.specs.Judgements.{EachBelow, FirstHolds}
use Rattle.cert_check.proofs.parts.judge_first.Given as goal

abbrev pub invariant-loop-k : goal.invariant-loop-k
invariant-loop-k l = record { vars : l.checker ≡ l.fn.checker; each : EachBelow (FirstHolds l.system l.cert) l.k }
