-- One of two codes among the same symbols.
use Rattle.std.proofs.Common.{cond, length, sym, ◌∙◌}
use Rattle.std.specs.Prelude.{slice_get}
use Rattle.bit_graph.specs.Meaning.{edge_value}
use Rattle.bit_arith.specs.Number.{number_of, values_of}
use Rattle.bit_choices.proofs.OfSymbols.{chosen_code_is, enough_codes}
use Rattle.bit_choices.proofs.choices.chosen_code.Goals as goal

pub recoded-requires-clause-wide : goal.recoded-requires-clause-wide
recoded-requires-clause-wide c = enough_codes (length c.args.symbols.now) c.least_bits-width.result c.least_bits-width.ensures

pub recoded-requires-2-clause-wide : goal.recoded-requires-2-clause-wide
recoded-requires-2-clause-wide c = enough_codes (length c.args.symbols.now) c.least_bits-width.result c.least_bits-width.ensures

pub returns-clause-value : goal.returns-clause-value
returns-clause-value c = λ v s h e.
    let second = c.in_ok-code.ensures.extends.kept v h in
    let first = c.in_ok-right.ensures.extends.kept v second in
    let x = c.args.x.now in
    let y = c.args.y.now in
    chosen_code_is v (edge_value v c.args.condition) x.symbols y.symbols c.args.symbols.now (number_of v x.code) (number_of v y.code) s c.in_ok-left.left.items c.in_ok-right.right.items c.in_ok-code.code.items
    (λ t q. c.in_ok-left.ensures.value v t first ((λ i. slice_get (c.as_slice.ensures i) (number_of v (c.as_slice-2.ensures i))) ∙ q))
    (λ t q. c.in_ok-right.ensures.value v t second ((λ i. slice_get (c.as_slice-3.ensures i) (number_of v (c.as_slice-4.ensures i))) ∙ q))
    (c.in_ok-code.ensures.value v h ∙ (λ i. cond (edge_value v c.args.condition) (values_of v (c.deref.ensures.value i)) (values_of v (c.deref-2.ensures.value i)))) e
