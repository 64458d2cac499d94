use Rattle.std.proofs.Common.{◌≡◌, take}
use Rattle.cert_core.specs.Certificates.{negated}
use Rattle.cert_check.proofs.lists.negate_all.Given as goal

abbrev pub invariant-loop-l : goal.invariant-loop-l
invariant-loop-l v = v.lits.items ≡ negated (take v.l-index v.c)
