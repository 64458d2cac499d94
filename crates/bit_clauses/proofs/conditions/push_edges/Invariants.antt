-- The edges of the literals so far.
use Rattle.std.proofs.Common.{◌≡◌, ◌++◌, map, take}
use Rattle.bit_clauses.specs.Nodes.{edge_of}
use Rattle.bit_clauses.proofs.conditions.push_edges.Given as goal

abbrev pub invariant-loop-l : goal.invariant-loop-l
invariant-loop-l l = l.edges.items ≡ l.initial.edges.items ++ map edge_of (take l.l-index l.clause)
