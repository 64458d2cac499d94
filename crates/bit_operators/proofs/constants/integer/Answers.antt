-- No symbol.
use Rattle.std.proofs.Common.{◌∙◌, ap, cond}
use Rattle.std.specs.Prelude.{Some, slice_get}
use Rattle.std.specs.Option.{option_map}
use Rattle.smv_value.specs.declared.value.Value.TheVariants as value
use Rattle.bit_arith.specs.Number.{number_of}
use Rattle.bit_operators.specs.Denoting.{integer_of}
use Rattle.bit_operators.specs.Lists.{is_distinct}
use Rattle.bit_operators.proofs.constants.integer.Goals as goal

pub invariant_of-result : goal.invariant_of-result
invariant_of-result c = record { distinct = ap is_distinct c.new.ensures }

pub returns-clause-value : goal.returns-clause-value
returns-clause-value c = λ v h.
    ap (λ b. cond b (option_map value.Sym (slice_get c.new.result (number_of v c.new-2.result))) (Some (value.Int (integer_of v c.from_vec.result)))) (c.constant.ensures.value v h)
    ∙ ap (λ l. Some (value.Int (integer_of v l))) c.from_vec.ensures
