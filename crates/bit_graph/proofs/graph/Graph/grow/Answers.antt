use Rattle.std.proofs.Common.{refl, length, ◌∙◌, ap}
use Rattle.bit_graph.specs.declared.edge.GraphNode.TheVariants.{False}
use Rattle.bit_graph.specs.Meaning.{IsBelow}
use Rattle.bit_graph.proofs.Grown.{Acyclic-push, SharesIn-push, IsFolded-push, Extends-push, none_from_new, at_old, at_new, found_value}
use Rattle.bit_graph.proofs.graph.Graph.grow.Goals as goal

pub invariant_of-self-in-Ok : goal.invariant_of-self-in-Ok
invariant_of-self-in-Ok c =
    let nodes = c.self.inside.nodes.items in
    let n = c.args.gate in
    let below : IsBelow (length nodes) n = rw c.self.view_is c.requires.below in
    rw c.in_ok-push.ensures.items (
      Acyclic-push nodes n c.self.invariant.0 below,
      SharesIn-push nodes c.self.inside.shared.entries c.insert.new.self.entries n
          (none_from_new nodes c.self.inside.shared.entries n c.self.invariant.1 (rw c.self.view_is c.requires.new))
          (λ q. c.in-Ok.ensures.updates.0 q ∙ rw c.as_slice-node.ensures.value refl) c.self.invariant.1,
      at_old nodes n False c.self.inside.falsehood c.self.invariant.2,
      IsFolded-push nodes n c.requires.gate (rw c.self.view_is c.requires.folded) c.self.invariant.3,
    )

pub returns-in-Ok-clause-extends : goal.returns-in-Ok-clause-extends
returns-in-Ok-clause-extends c =
    let below : IsBelow (length c.self.inside.nodes.items) c.args.gate = rw c.self.view_is c.requires.below in
    rw (← c.self.view_is, c.in_ok-push.ensures.items) (Extends-push c.self.inside.nodes.items c.args.gate c.requires.gate c.self.invariant.0 below)

pub returns-in-Ok-clause-value : goal.returns-in-Ok-clause-value
returns-in-Ok-clause-value c = λ v h.
    ap (λ xs. v (length xs)) c.as_slice-node.ensures.value ∙ found_value v c.push.new.self.items c.args.gate (length c.self.inside.nodes.items) c.requires.gate
    (rw c.in_ok-push.ensures.items (at_new c.self.inside.nodes.items c.args.gate)) h
