use Rattle.std.proofs.Common.{◌≡◌, ◌++◌, take}
use Rattle.cert_core.specs.Certificates.{unit_clauses}
use Rattle.cert_check.proofs.lists.append_units.Given as goal

abbrev pub invariant-loop-l : goal.invariant-loop-l
invariant-loop-l v = v.to ≡ v.initial.to ++ unit_clauses (take v.l-index v.units)
