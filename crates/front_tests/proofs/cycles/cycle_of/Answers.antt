-- The test says that the lists make a graph.
use Rattle.front_tests.proofs.cycles.cycle_of.Goals as goal

pub canonical_cycle-requires-clause-closed : goal.canonical_cycle-requires-clause-closed
canonical_cycle-requires-clause-closed c = c.is_closed.ensures.0 c.if-is_closed.true
