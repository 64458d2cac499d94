-- One symbol, which no bit tells.
use Rattle.std.proofs.Common.{◌∙◌, ap, cond}
use Rattle.std.specs.Prelude.{Some, slice_get}
use Rattle.std.specs.Option.{option_map}
use Rattle.smv_value.specs.declared.value.Value.TheVariants as value
use Rattle.bit_arith.specs.Number.{number_of}
use Rattle.bit_operators.specs.Denoting.{integer_of}
use Rattle.bit_operators.specs.Lists.{is_distinct}
use Rattle.bit_operators.proofs.constants.symbol.Goals as goal

pub invariant_of-result : goal.invariant_of-result
invariant_of-result c = record { distinct = ap is_distinct c.in_ok-symbols.ensures }

pub returns-clause-value : goal.returns-clause-value
returns-clause-value c = λ v h.
    ap (λ b. cond b (option_map value.Sym (slice_get c.in_ok-symbols.symbols (number_of v c.new-2.result))) (Some (value.Int (integer_of v c.new.result)))) (c.constant.ensures.value v h)
    ∙ (λ i. option_map value.Sym (slice_get (c.in_ok-symbols.ensures i) (number_of v (c.new-2.ensures i))))
