use Rattle.std.proofs.Common.{◌∙◌, ap, length}
use Rattle.bit_arith.specs.Number.{number_of}
use Rattle.bit_arith.proofs.Numbers.{AllStand-extends}
use Rattle.bit_arith.proofs.TwosComplement.{size}
use Rattle.bit_arith.proofs.signs.with_signs.Goals as goal

pub negate_if-requires-clause-a_stand : goal.negate_if-requires-clause-a_stand
negate_if-requires-clause-a_stand c = AllStand-extends c.args.graph.now c.xor.new.self c.args.size.now c.in_ok-apart.ensures.extends c.requires.size_stand

pub negate_if-requires-2-clause-a_stand : goal.negate_if-requires-2-clause-a_stand
negate_if-requires-2-clause-a_stand c =
    AllStand-extends c.xor.new.self c.negate_if.new.graph c.args.rest.now c.in_ok-quotient.ensures.extends
    (AllStand-extends c.args.graph.now c.xor.new.self c.args.rest.now c.in_ok-apart.ensures.extends c.requires.rest_stand)

pub returns-clause-stands : goal.returns-clause-stands
returns-clause-stands c = (
  AllStand-extends c.negate_if.new.graph c.negate_if-2.new.graph c.in_ok-quotient.quotient.items c.in_ok-remainder.ensures.extends c.in_ok-quotient.ensures.stands,
  c.in_ok-remainder.ensures.stands,
)

pub returns-clause-quotient : goal.returns-clause-quotient
returns-clause-quotient c = λ v h.
    let after_quotient = c.in_ok-remainder.ensures.extends.kept v h in
    let after_apart = c.in_ok-quotient.ensures.extends.kept v after_quotient in
    c.in_ok-quotient.ensures.value v after_quotient
    ∙ ap (λ s. size s (length c.args.size.now) (number_of v c.args.size.now)) (c.in_ok-apart.ensures.value v after_apart)

pub returns-clause-remainder : goal.returns-clause-remainder
returns-clause-remainder c = λ v h. c.in_ok-remainder.ensures.value v h
