-- The edges so far.
use Rattle.std.proofs.Common.{map, take}
use Rattle.bit_graph.specs.Growth.{Extends}
use Rattle.smv_resolve.specs.Items.{item_by}
use Rattle.bit_conditions.specs.Told.{TellsState, state_under}
use Rattle.bit_system.specs.Conditions.{Each, TellsBad}
use Rattle.bit_system.proofs.claims.bad_edges.Given as goal

abbrev pub invariant-loop-spec : goal.invariant-loop-spec
invariant-loop-spec l = record {
  extends : Extends l.initial.graph l.graph;
  state : TellsState l.graph l.typed l.state;
  bad : Each (TellsBad l.graph l.typed.scope.program (λ v. state_under l.typed.scope.program v l.state.bits)) (map (item_by l.typed.nodes) (take l.spec-index l.specs)) l.edges.items;
}
