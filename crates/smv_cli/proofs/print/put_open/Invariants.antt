-- The records so far are written.
use Rattle.std.proofs.Common.{◌≡◌, List, map, take}
use Rattle.smv_resolve.specs.declared.node.ExprNode.{ExprNode}
use Rattle.smv_resolve.specs.Items.{item_by}
use Rattle.smv_cli.specs.Written.{WritesOpenRecords}
use Rattle.smv_cli.proofs.print.put_open.Given as goal

abbrev pub invariant-open_specs : goal.invariant-open_specs
invariant-open_specs g l = record {
  so_far : (nodes : List ExprNode) → WritesOpenRecords l.drawn l.budget (take l.i (map (item_by nodes) l.specs)) (g.K.Sink.taken l.initial.sink) (g.K.Sink.taken l.sink);
  same : g.K.Sink.faults l.sink ≡ g.K.Sink.faults l.initial.sink;
}
