-- One edge more.
use Rattle.std.proofs.Common.{◌∙◌, ◌+◌, ℕ, [], ◌∷◌, ap, arith, length, subst, sym}
use Rattle.std.proofs.lemmas.List.{length-append, map-append}
use Rattle.std.proofs.lemmas.List.Elements.{All-push}
use Rattle.bit_arith.specs.Number.{AllStand, values_of}
use Rattle.bit_graph.specs.Meaning.{Stands, edge_value}
use Rattle.bit_formula.specs.Coding.{kept_below}
use Rattle.bit_formula.proofs.OfStates.{truths_more}
use Rattle.bit_formula.proofs.states.read_edges.Goals as goal

pub loop-place-preserved : goal.loop-place-preserved
loop-place-preserved c =
    let g = c.args.graph.now in
    let made = c.loop-place.edges.items in
    let edge = c.read_edge.result in
    let items = c.in_ok-push.ensures.items in
    let inv = c.loop-place.invariant in
    record {
      long = omega (arith, ap length items, length-append made (edge ∷ []), inv.long);
      stand = subst (AllStand g) (sym items) (All-push (Stands g) made edge inv.stand c.read_edge.ensures.stands);
      value = λ v holds.
          truths_more (kept_below c.args.joint (λ (k : ℕ). v (c.args.start + k))) c.args.places.now c.loop-place.place-index _ (values_of v made) (values_of v c.push.new.self.items)
          (edge_value v edge) c.loop-place-test.true (inv.value v holds) (ap (values_of v) items ∙ map-append (edge_value v) made (edge ∷ [])) (c.read_edge.ensures.value v holds);
    }

pub returns-clause-long : goal.returns-clause-long
returns-clause-long c = omega (arith, ap length c.from_vec.ensures, c.loop-place.invariant.long)
