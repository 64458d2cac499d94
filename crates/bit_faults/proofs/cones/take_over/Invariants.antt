-- What was taken over so far, and nodes that are left.
use Rattle.std.proofs.Common.{◌<◌, length}
use Rattle.std.specs.Prelude.{All}
use Rattle.bit_graph.specs.Growth.{Extends}
use Rattle.bit_faults.specs.Cones.{Copies}
use Rattle.bit_faults.proofs.cones.take_over.Given as goal

abbrev pub invariant-nodes : goal.invariant-nodes
invariant-nodes l = record {
  copies : Copies l.inputs l.graph l.cone;
  extends : Extends l.fn.cone.graph l.cone.graph;
  rest : All (λ k. k < length l.graph) l.rest.items;
}
