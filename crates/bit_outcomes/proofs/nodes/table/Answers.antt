-- One node more.
use Rattle.std.proofs.Common.{◌+◌, ◌≤◌, List, [], take, length, subst, sym, arith}
use Rattle.std.proofs.lemmas.List.{take_all}
use Rattle.std.proofs.lemmas.List.Elements.{All-push}
use Rattle.smv_resolve.specs.declared.node.ExprNode.{ExprNode}
use Rattle.smv_meaning.specs.Tables.{outcomes_of}
use Rattle.bit_outcomes.specs.declared.told.Told.{Told}
use Rattle.bit_outcomes.specs.Telling.{AllTold, TellsAll, ToldStands}
use Rattle.bit_outcomes.proofs.Kept.{all_told_kept, extends_refl, extends_trans, symbolics_kept}
use Rattle.bit_outcomes.proofs.OfNodes.{table_more, table_none}
use Rattle.bit_outcomes.proofs.nodes.table.Goals as goal

pub loop-i-init : goal.loop-i-init
loop-i-init c = record {
  extends = extends_refl c.args.graph.now;
  state = c.requires.state;
  inputs = c.requires.inputs;
  later = c.requires.later;
  stand = subst (AllTold c.args.graph.now) (sym c.in_ok-made.ensures) (λ k d lt. absurd (let no : ⊥ = omega (arith, lt) in no));
  told = λ v s u t h ds du next.
      subst (λ (ts : List Told). TellsAll v ts (outcomes_of c.args.slots.now s u t [])) (sym c.in_ok-made.ensures) (table_none v c.args.slots.now s u t);
}

pub loop-i-preserved : goal.loop-i-preserved
loop-i-preserved c =
    let before = c.loop-i.invariant in
    let told = c.in_ok-told.ensures in
    let g = c.loop-i.graph in
    let k = c.told_of_node.new.graph in
    let made = c.loop-i.made in
    let x = c.in_ok-told.told in
    let pushed = c.in_ok-push.ensures.ok in
    let same = c.as_slice.ensures in
    record {
      extends = extends_trans c.args.graph.now g k before.extends told.extends;
      state = symbolics_kept g k told.extends c.args.state.now before.state;
      inputs = symbolics_kept g k told.extends c.args.inputs.now before.inputs;
      later = all_told_kept g k told.extends c.args.later.now before.later;
      stand = subst (AllTold k) (sym pushed) (All-push (ToldStands k) made x (all_told_kept g k told.extends made before.stand) told.stands);
      told = λ v s u t h ds du next.
          let first = told.extends.kept v h in
          subst (λ (ts : List Told). TellsAll v ts (outcomes_of c.args.slots.now s u t (take (c.loop-i.i + 1) c.args.nodes.now))) (sym pushed)
          (table_more v c.args.slots.now c.args.nodes.now s u t made c.args.later.now c.first-before.result.now c.loop-i.i _ x c.loop-i-test.true c.first-before.ensures
          (before.told v s u t first ds du next) next
          (λ os ps a b. told.told v s u os ps h ds du (subst (λ (ts : List Told). TellsAll v ts os) (sym same) a) b));
    }

pub returns-clause-told : goal.returns-clause-told
returns-clause-told c = λ v s u t h ds du next.
    let all : length c.args.nodes.now ≤ c.loop-i.i = omega arith in
    subst (λ (ns : List ExprNode). TellsAll v c.loop-i.made (outcomes_of c.args.slots.now s u t ns)) (take_all c.loop-i.i c.args.nodes.now all)
    (c.loop-i.invariant.told v s u t h ds du next)
