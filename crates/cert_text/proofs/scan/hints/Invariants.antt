use Rattle.std.proofs.Common.{◌≡◌, drop}
use Rattle.cert_text.specs.Lines.{hints_of}
use Rattle.cert_text.proofs.Scans.{behind}
use Rattle.cert_text.proofs.scan.hints.Given as goal

abbrev pub invariant-loop-i : goal.invariant-loop-i
invariant-loop-i l = behind l.hints.items (hints_of (drop l.i l.tokens)) ≡ hints_of l.tokens
