-- The symbol at the code.
use Rattle.std.proofs.Common.{cond, sym, ap, ◌∙◌}
use Rattle.std.specs.Prelude.{Some, slice_get}
use Rattle.std.specs.Option.{option_map}
use Rattle.smv_value.specs.declared.value.Value.TheVariants as value
use Rattle.value_types.specs.Types.{element_value}
use Rattle.value_types.specs.Types.{is_distinct as are_distinct}
use Rattle.bit_arith.specs.Number.{number_of}
use Rattle.bit_operators.specs.Denoting.{integer_of}
use Rattle.bit_operators.specs.Lists.{is_distinct}
use Rattle.bit_choices.proofs.OfElements.{distinct_symbols, symbol_at}
use Rattle.bit_choices.proofs.enumerations.symbolic.Goals as goal

pub invariant_of-result : goal.invariant_of-result
invariant_of-result c = record { distinct = ap is_distinct c.from_vec.ensures ∙ sym (distinct_symbols c.args.symbols.items) ∙ sym (ap are_distinct c.requires.symbols) ∙ c.requires.distinct }

pub returns-clause-value : goal.returns-clause-value
returns-clause-value c = λ v x h e.
    ap (λ b. cond b (option_map value.Sym (slice_get c.from_vec.result (number_of v c.in_ok-code.code))) (Some (value.Int (integer_of v c.new.result)))) (c.constant.ensures.value v h)
    ∙ (λ i. option_map value.Sym (slice_get (c.from_vec.ensures i) (number_of v (c.in_ok-code.ensures i))))
    ∙ symbol_at c.args.symbols.items (number_of v c.args.bits.now)
    ∙ ap (λ l. option_map element_value (slice_get l (number_of v c.args.bits.now))) (sym c.requires.symbols) ∙ e
