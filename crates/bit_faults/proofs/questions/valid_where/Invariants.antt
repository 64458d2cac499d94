-- The edge is true where the slots with the bits so far have values.
use Rattle.std.proofs.Common.{take}
use Rattle.std.specs.Prelude.{slice_index_or}
use Rattle.std.specs.List.{list_all}
use Rattle.bit_graph.specs.declared.edge.Edge.{Edge}
use Rattle.bit_graph.specs.Growth.{Extends}
use Rattle.bit_graph.specs.Meaning.{Denotes, Stands}
use Rattle.bit_graph.specs.Values.{value_under}
use Rattle.bit_faults.specs.Cones.{Copies}
use Rattle.bit_faults.proofs.questions.valid_where.Given as goal

abbrev pub invariant-loop-k : goal.invariant-loop-k
invariant-loop-k l = record {
  copies : Copies l.named l.graph l.cone;
  extends : Extends l.fn.cone.graph l.cone.graph;
  stands : Stands l.cone.graph l.valid;
  value : (d : Edge) → Denotes l.cone.graph l.valid (λ v. list_all (λ k. value_under v l.graph (slice_index_or l.domains k d)) (take l.k-index l.read));
}
