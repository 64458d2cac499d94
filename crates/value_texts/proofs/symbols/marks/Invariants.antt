-- As many `$` so far.
use Rattle.std.proofs.Common.{◌≡◌, replicate, string_bytes}
use Rattle.value_texts.proofs.symbols.marks.Given as goal

abbrev pub invariant-loop-k : goal.invariant-loop-k
invariant-loop-k l = string_bytes l.text ≡ replicate l.k 36
