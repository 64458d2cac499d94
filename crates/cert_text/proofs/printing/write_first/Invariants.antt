use Rattle.std.proofs.Common.{◌≡◌, ◌+◌, ◌++◌, drop, string_bytes, codes}
use Rattle.cert_text.specs.Printed.{parts_text}
use Rattle.cert_text.proofs.printing.write_first.Given as goal

abbrev pub invariant-loop-k : goal.invariant-loop-k
invariant-loop-k l =
    string_bytes l.out ++ parts_text l.cert.form (codes "first") (l.k + 1) (drop l.k l.cert.first) ≡ string_bytes l.initial.out ++ parts_text l.cert.form (codes "first") 1 l.cert.first
