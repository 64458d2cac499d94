-- The clauses of the edges so far.
use Rattle.std.proofs.Common.{take}
use Rattle.bit_system.specs.Conditions.{Each}
use Rattle.bit_system.specs.Sharing.{DecidesEdge}
use Rattle.bit_system.proofs.systems.claims.Given as goal

abbrev pub invariant-loop-edge : goal.invariant-loop-edge
invariant-loop-edge l = Each (DecidesEdge l.width l.graph) (take l.edge-index l.edges) l.claims.items
