-- One element more.
use Rattle.std.proofs.Common.{rules, arith, ◌<◌, length}
use Rattle.std.proofs.lemmas.Option.{slice_get-get_or}
use Rattle.bit_graph.specs.Growth.{Extends}
use Rattle.bit_arith.specs.Number.{number_of}
use Rattle.bit_arith.proofs.Numbers.{AllStand-extends}
use Rattle.bit_operators.specs.Denoting.{discrete_value}
use Rattle.bit_choices.proofs.OfElements.{element_more, mapped_within}
use Rattle.bit_choices.proofs.enumerations.chosen.Goals as goal

pub elements-preserved : goal.elements-preserved
elements-preserved c = record {
  extends = search rules;
  bits_stand = AllStand-extends c.elements.graph c.with_element.new.graph c.args.bits.now c.in_ok-next.ensures.extends c.elements.invariant.bits_stand;
  stands = c.in_ok-next.ensures.stands;
  value = λ v x h l e.
      let before = c.in_ok-next.ensures.extends.kept v h in
      let within : c.elements.i < length c.args.elements.now = omega arith in
      element_more c.args.elements.now (number_of v c.args.bits.now) c.elements.i _ (discrete_value v c.elements.made) (discrete_value v c.in_ok-next.next) x l e
      (slice_get-get_or c.args.elements.now c.elements.i _ within) (λ m. c.elements.invariant.value v x before m e) (λ g. c.in_ok-next.ensures.value v x h g);
}

pub returns-clause-value : goal.returns-clause-value
returns-clause-value c = λ v x h e.
    let within : number_of v c.args.bits.now < length c.args.elements.now = mapped_within c.args.elements.now (number_of v c.args.bits.now) x e in
    c.elements.invariant.value v x h (omega arith) e
