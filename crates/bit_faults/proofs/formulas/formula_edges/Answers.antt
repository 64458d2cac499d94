-- One node more.
use Rattle.std.proofs.Common.{◌+◌, ◌≤◌, List, [], take, length, subst, sym, arith}
use Rattle.std.specs.Prelude.{Option}
use Rattle.std.proofs.lemmas.List.{take_all}
use Rattle.std.proofs.lemmas.List.Elements.{All-push}
use Rattle.bit_graph.specs.declared.edge.Edge.{Edge}
use Rattle.smv_resolve.specs.declared.node.ExprNode.{ExprNode}
use Rattle.smv_resolve.specs.Resolved.{parts_of}
use Rattle.bit_outcomes.proofs.Kept.{all_told_kept, extends_refl, extends_trans}
use Rattle.bit_faults.specs.Formulas.{AllStandIfAny, StandsIfAny, TellsFormulas}
use Rattle.bit_faults.proofs.OfFormulas.{all_kept, next_told, none_told, own_at}
use Rattle.bit_faults.proofs.formulas.formula_edges.Goals as goal

pub loop-i-init : goal.loop-i-init
loop-i-init c = record {
  extends = extends_refl c.args.graph.now;
  here = c.requires;
  stand = subst (AllStandIfAny c.args.graph.now) (sym c.new-made.ensures) (λ k d lt. absurd (let no : ⊥ = omega (arith, lt) in no));
  told = λ v slots s u h all. subst (λ (es : List (Option Edge)). TellsFormulas v slots s u es (parts_of [])) (sym c.new-made.ensures) (none_told v slots s u);
}

pub edge_of_node-requires-clause-mine : goal.edge_of_node-requires-clause-mine
edge_of_node-requires-clause-mine c = c.own_fault-mine.ensures.stands c.loop-i.graph c.loop-i.invariant.here

pub loop-i-preserved : goal.loop-i-preserved
loop-i-preserved c =
    let before = c.loop-i.invariant in
    let edge = c.in_ok-edge.ensures in
    let g = c.loop-i.graph in
    let k = c.edge_of_node.new.graph in
    let made = c.loop-i.made in
    let x = c.in_ok-edge.edge in
    let pushed = c.in_ok-push.ensures.ok in
    let same = c.as_slice.ensures in
    record {
      extends = extends_trans c.args.graph.now g k before.extends edge.extends;
      here = all_told_kept g k edge.extends c.args.here.now before.here;
      stand = subst (AllStandIfAny k) (sym pushed) (All-push (StandsIfAny k) made x (all_kept g k edge.extends made before.stand) edge.stands);
      told = λ v slots s u h all.
          let first = edge.extends.kept v h in
          let parts = parts_of (take c.loop-i.i c.args.nodes.now) in
          let so_far = before.told v slots s u first all in
          subst (λ (es : List (Option Edge)). TellsFormulas v slots s u es (parts_of (take (c.loop-i.i + 1) c.args.nodes.now))) (sym pushed)
          (next_told v slots s u c.args.nodes.now c.loop-i.i _ made x c.loop-i-test.true so_far
          (edge.told v slots s u parts h (subst (λ (es : List (Option Edge)). TellsFormulas v slots s u es parts) (sym same) so_far)
          (own_at v slots s u c.args.nodes.now c.loop-i.i _ c.own_fault-mine.result c.loop-i-test.true (c.own_fault-mine.ensures.told v _ all))));
    }

pub returns-clause-told : goal.returns-clause-told
returns-clause-told c = λ v slots s u h all.
    let past : length c.args.nodes.now ≤ c.loop-i.i = omega arith in
    subst (λ (ns : List ExprNode). TellsFormulas v slots s u c.loop-i.made (parts_of ns)) (take_all c.loop-i.i c.args.nodes.now past) (c.loop-i.invariant.told v slots s u h all)
