use Rattle.std.proofs.Common.{◌≡◌, drop}
use Rattle.cert_text.specs.Tokens.{number_after}
use Rattle.cert_text.proofs.words.value_of.Given as goal

abbrev pub invariant-loop-b : goal.invariant-loop-b
invariant-loop-b l = number_after l.value (drop l.b-index l.digits) ≡ number_after 0 l.digits
