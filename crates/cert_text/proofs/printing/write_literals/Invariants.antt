use Rattle.std.proofs.Common.{◌≡◌, ◌++◌, drop, string_bytes}
use Rattle.cert_text.specs.Printed.{literals_text}
use Rattle.cert_text.proofs.printing.write_literals.Given as goal

abbrev pub invariant-loop-l : goal.invariant-loop-l
invariant-loop-l l = string_bytes l.out ++ literals_text (drop l.l-index l.lits) ≡ string_bytes l.initial.out ++ literals_text l.lits
