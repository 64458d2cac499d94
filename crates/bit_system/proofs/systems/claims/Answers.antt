-- The clauses of one edge more.
use Rattle.std.proofs.Common.{List, [], sym, subst}
use Rattle.bit_system.specs.declared.sides.Claim.{Claim}
use Rattle.bit_system.specs.Conditions.{Each}
use Rattle.bit_system.specs.Sharing.{DecidesEdge}
use Rattle.bit_system.proofs.Pairs.{each_next, each_none}
use Rattle.bit_system.proofs.systems.claims.Goals as goal

pub loop-edge-init : goal.loop-edge-init
loop-edge-init c =
    let decides = DecidesEdge c.args.width c.args.graph.now in
    subst (λ (cs : List Claim). Each decides [] cs) (sym c.new-claims.ensures.items) (each_none decides)

pub loop-edge-preserved : goal.loop-edge-preserved
loop-edge-preserved c =
    let decides = DecidesEdge c.args.width c.args.graph.now in
    rw c.in_ok-push.ensures.items
    (each_next decides c.args.edges.now c.loop-edge.claims.items c.loop-edge.edge-index _ c.in_ok-claim_side.field-0 c.loop-edge-test.true c.loop-edge.invariant c.in_ok-claim_side.ensures)
