use Rattle.std.proofs.Common.{◌≡◌, take}
use Rattle.cert_core.specs.Certificates.{negated_next}
use Rattle.cert_check.proofs.lists.negate_next.Given as goal

abbrev pub invariant-loop-l : goal.invariant-loop-l
invariant-loop-l v = v.lits.items ≡ negated_next v.state_bits (take v.l-index v.c)
