-- One bit more.
use Rattle.std.proofs.Common.{rules, arith, ◌∙◌, ap, sym}
use Rattle.std.proofs.lemmas.List.Elements.{All-push}
use Rattle.smv_value.specs.Results.{logic_truth}
use Rattle.bit_graph.specs.Meaning.{Stands}
use Rattle.bit_arith.specs.Number.{values_of}
use Rattle.bit_arith.proofs.Numbers.{AllStand-extends}
use Rattle.bit_operators.proofs.Bitwise.{joined_more, whole_lists}
use Rattle.bit_operators.proofs.logic.joined_bits.Goals as goal

pub bits-preserved : goal.bits-preserved
bits-preserved c = record {
  extends = search rules;
  a_stand = AllStand-extends c.bits.graph c.joined.new.graph c.args.a.now c.in_ok-e.ensures.extends c.bits.invariant.a_stand;
  b_stand = AllStand-extends c.bits.graph c.joined.new.graph c.args.b.now c.in_ok-e.ensures.extends c.bits.invariant.b_stand;
  stand =
      rw c.in_ok-push.ensures.items
      (All-push (Stands c.joined.new.graph) c.bits.bits.items c.in_ok-e.e
      (AllStand-extends c.bits.graph c.joined.new.graph c.bits.bits.items c.in_ok-e.ensures.extends c.bits.invariant.stand) c.in_ok-e.ensures.stands);
  count = search rules;
  value = λ v h.
      ap (values_of v) c.in_ok-push.ensures.items
      ∙ joined_more v (logic_truth c.args.o) c.args.a.now c.args.b.now c.bits.i _ _ c.bits.bits.items c.in_ok-e.e (omega arith) (omega arith)
      (c.bits.invariant.value v (c.in_ok-e.ensures.extends.kept v h)) (c.in_ok-e.ensures.value v h);
}

pub returns-clause-value : goal.returns-clause-value
returns-clause-value c = λ v h. whole_lists v (logic_truth c.args.o) c.args.a.now c.args.b.now c.bits.i _ (omega arith) (omega arith) (c.bits.invariant.value v h)
