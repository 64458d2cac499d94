use Rattle.bit_arith.specs.Number.{AllStand}
use Rattle.graph_tests.proofs.operators.edges_from.Given as goal

abbrev pub invariant-edges : goal.invariant-edges
invariant-edges l = AllStand l.graph l.edges.items
