-- One edge taken over.
use Rattle.std.proofs.Common.{◌≡◌, ◌∙◌, List, length, sym, subst}
use Rattle.std.specs.List.{All}
use Rattle.bit_graph.specs.declared.edge.Edge.{Edge}
use Rattle.bit_graph.specs.Meaning.{Stands}
use Rattle.bit_clauses.proofs.Pushing.{any_edge_next}
use Rattle.bit_clauses.proofs.clause.opened.Goals as goal

pub rest-preserved : goal.rest-preserved
rest-preserved c =
    let stand : All (Stands c.args.graph.now) c.deref-e-items.result.now =
    subst (λ (es : List Edge). All (Stands c.args.graph.now) es) (sym c.deref-e-items.ensures.value) c.parts.invariant.stand in
    record {
      within = c.in_ok-add.ensures.within (length c.args.graph.now) (stand c.rest.e-index _ c.rest-test.true) c.rest.invariant.within;
      value = λ v ok.
          any_edge_next v c.rest.clause.items c.add.new.clause.items c.deref-e-items.result.now c.rest.e-index _ c.rest-test.true (c.in_ok-add.ensures.value v)
          ∙ c.rest.invariant.value v ok;
    }
