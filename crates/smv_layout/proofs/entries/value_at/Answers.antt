-- There is no node at the end of the list.
use Rattle.std.proofs.Common.{Option, ap, sym, ◌∙◌, arith}
use Rattle.smv_resolve.specs.Resolved.{Resolved}
use Rattle.smv_resolve.proofs.Parts.{part_past}
use Rattle.smv_layout.specs.declared.laid.LaidNode.{LaidNode}
use Rattle.smv_layout.specs.Layout.{value_of}
use Rattle.smv_layout.specs.Nodes.{entry_by}
use Rattle.smv_layout.proofs.Standing.{node_is}
use Rattle.smv_layout.proofs.entries.value_at.Goals as goal

pub returns-in-None : goal.returns-in-None
returns-in-None c =
    part_past c.args.nodes.now c.len.result (omega (arith, c.len.ensures)) ∙ ap (λ (x : Option LaidNode). value_of (entry_by c.args.nodes.now x)) c.in-None.ensures

pub returns-in-Some : goal.returns-in-Some
returns-in-Some c = rw c.value_of.ensures (node_is c.args.nodes.now c.in-Some.x.now ∙ ap (λ (x : Option LaidNode). value_of (entry_by c.args.nodes.now x)) c.in-Some.ensures)
