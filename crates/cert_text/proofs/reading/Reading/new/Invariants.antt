use Rattle.std.proofs.Common.{◌≡◌, None, replicate}
use Rattle.cert_text.proofs.reading.Reading.new.Given as goal

abbrev pub invariant-loop-spec : goal.invariant-loop-spec
invariant-loop-spec l = l.certificates.items ≡ replicate l.spec None
