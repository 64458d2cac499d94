use Rattle.std.proofs.Common.{◌≡◌, ◌++◌, drop, string_bytes}
use Rattle.cert_text.specs.Printed.{steps_text}
use Rattle.cert_text.proofs.printing.write_steps.Given as goal

abbrev pub invariant-loop-k : goal.invariant-loop-k
invariant-loop-k l = string_bytes l.out ++ steps_text l.form (drop l.k l.log.steps) (drop l.k l.log.hints) ≡ string_bytes l.initial.out ++ steps_text l.form l.log.steps l.log.hints
