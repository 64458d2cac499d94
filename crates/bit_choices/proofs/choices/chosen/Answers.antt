-- Part by part.
use Rattle.std.proofs.Common.{cond, sym, ap, ◌∙◌}
use Rattle.std.specs.Prelude.{slice_get}
use Rattle.bit_graph.specs.Meaning.{edge_value}
use Rattle.bit_arith.specs.Number.{number_of}
use Rattle.bit_operators.specs.Denoting.{integer_of}
use Rattle.bit_choices.proofs.OfValues.{chosen_value}
use Rattle.bit_choices.proofs.choices.chosen.Goals as goal

pub returns-clause-value : goal.returns-clause-value
returns-clause-value c = λ v p h g.
    let second = c.in_ok-codes.ensures.extends.kept v h in
    let first = c.in_ok-integers.ensures.extends.kept v second in
    let x = c.args.x.now in
    let y = c.args.y.now in
    let condition = edge_value v c.args.condition in
    chosen_value condition (edge_value v c.in_ok-is_symbol.is_symbol) (edge_value v x.is_symbol) (edge_value v y.is_symbol)
    (slice_get c.from_vec-symbols.result (number_of v c.from_vec-code.result)) (slice_get x.symbols (number_of v x.code)) (slice_get y.symbols (number_of v y.code))
    (integer_of v c.from_vec-number.result) (integer_of v x.number) (integer_of v y.number) p (c.in_ok-is_symbol.ensures.value v first)
    (ap (integer_of v) c.from_vec-number.ensures ∙ c.in_ok-integers.ensures.value v second ∙ (λ i. cond condition (integer_of v (c.as_slice.ensures i)) (integer_of v (c.as_slice-2.ensures i))))
    (λ k q. (λ i. slice_get ((c.from_vec-symbols.ensures ∙ sym c.deref.ensures.value) i) (number_of v (c.from_vec-code.ensures i))) ∙ c.in_ok-codes.ensures.value v k h q) g
