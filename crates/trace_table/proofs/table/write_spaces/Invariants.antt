-- As many spaces so far.
use Rattle.std.proofs.Common.{◌≡◌, ◌++◌, replicate, string_bytes}
use Rattle.trace_table.proofs.table.write_spaces.Given as goal

abbrev pub invariant-loop-k : goal.invariant-loop-k
invariant-loop-k l = string_bytes l.out ≡ string_bytes l.initial.out ++ replicate l.k 32
