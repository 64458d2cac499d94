-- The edges of the clauses so far.
use Rattle.std.proofs.Common.{◌≡◌, map, take}
use Rattle.bit_clauses.specs.Nodes.{edge_of, literals_in}
use Rattle.bit_clauses.proofs.conditions.edges_in.Given as goal

abbrev pub invariant-clauses : goal.invariant-clauses
invariant-clauses l = l.edges.items ≡ map edge_of (literals_in (take l.k l.clauses))
