use Rattle.std.proofs.Common.{◌≡◌, length}
use Rattle.bit_arith.specs.Number.{AllStand}
use Rattle.graph_tests.proofs.words.inputs.Given as goal

abbrev pub invariant-bits : goal.invariant-bits
invariant-bits l = record { stand : AllStand l.graph l.made.items; count : length l.made.items ≡ l.i }
