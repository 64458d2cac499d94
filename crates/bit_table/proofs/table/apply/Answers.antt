-- With a fault, or without.
use Rattle.std.proofs.Common.{ap}
use Rattle.smv_value.specs.declared.value.FaultRule.TheVariants as fault
use Rattle.smv_value.specs.Results.{divided, fault_of, is_too_far, is_zero, of_numbers, shifted, value_of}
use Rattle.bit_table.proofs.OfComputing.{always_stands, always_value, given_unless, pair_is}
use Rattle.bit_table.proofs.table.apply.Goals as goal

pub returns-in_ok-made-in-len2-clause-value : goal.returns-in_ok-made-in-len2-clause-value
returns-in_ok-made-in-len2-clause-value c =
    given_unless c.divided.new.graph c.args.operator (λ x y. is_zero y) fault.DivisorZero (of_numbers (divided c.in-Division.o)) c.args.operands.now c.a-item.result c.b-item.result c.in_ok-made-in-len2.made
    c.given.result (pair_is c.args.operands.now c.a-item.result c.b-item.result c.in-len2.len_at_least c.in-len2.len_below c.a-item.is c.b-item.is) (ap value_of c.in-Division.is) (ap fault_of c.in-Division.is)
    c.given.ensures c.in_ok-made-in-len2.ensures.value

pub returns-in_ok-made-in-len2-operands-clause-value : goal.returns-in_ok-made-in-len2-operands-clause-value
returns-in_ok-made-in-len2-operands-clause-value c =
    let a = c.a-item-then-operands-lt3-2 in
    let b = c.b-item-then-operands-lt3-2 in
    given_unless c.shifted.new.graph c.args.operator is_too_far fault.ShiftTooFar (shifted c.in-Shift.o) c.args.operands.now a.result b.result c.in_ok-made-in-len2-operands.made
    c.given-in-len2-operands.result (pair_is c.args.operands.now a.result b.result c.in-len2-operands.len_at_least c.in-len2-operands.len_below a.is b.is) (ap value_of c.in-Shift.is) (ap fault_of c.in-Shift.is)
    c.given-in-len2-operands.ensures c.in_ok-made-in-len2-operands.ensures.value

pub returns-in_ok-made-in_default : goal.returns-in_ok-made-in_default
returns-in_ok-made-in_default c =
    let made = c.in_ok-made-in_default.made in
    let r = c.without_fault.result in
    record {
      extends = c.in_ok-made-in_default.ensures.extends;
      stands = always_stands c.always.new.graph made r c.without_fault.ensures.made c.without_fault.ensures.stands c.in_ok-made-in_default.ensures.stands;
      value = always_value c.always.new.graph c.args.operator c.args.operands.now made r c.without_fault.ensures.made c.without_fault.ensures.never c.in_ok-made-in_default.ensures.value;
    }
