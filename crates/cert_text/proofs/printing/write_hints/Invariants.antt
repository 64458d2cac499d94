use Rattle.std.proofs.Common.{◌≡◌, ◌++◌, drop, string_bytes}
use Rattle.cert_text.specs.Printed.{hints_text}
use Rattle.cert_text.proofs.printing.write_hints.Given as goal

abbrev pub invariant-loop-h : goal.invariant-loop-h
invariant-loop-h l = string_bytes l.out ++ hints_text (drop l.h-index l.hints) ≡ string_bytes l.initial.out ++ hints_text l.hints
