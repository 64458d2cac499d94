-- A symbol of the type, or an integer of it.
use Rattle.std.proofs.Common.{cond, ap, ◌∙◌}
use Rattle.std.specs.Prelude.{slice_get}
use Rattle.std.specs.List.{list_any}
use Rattle.smv_value.specs.declared.value.Value.TheVariants as value
use Rattle.value_types.specs.Types.{is_element}
use Rattle.bit_graph.specs.Meaning.{edge_value}
use Rattle.bit_arith.specs.Number.{number_of}
use Rattle.bit_operators.specs.Denoting.{integer_of}
use Rattle.bit_choices.proofs.OfElements.{among_by}
use Rattle.bit_choices.proofs.OfValues.{negation_is}
use Rattle.bit_choices.proofs.types.is_among.Goals as goal

pub returns-clause-value : goal.returns-clause-value
returns-clause-value c = λ v x h e.
    let second = c.in_ok-among.ensures.extends.kept v h in
    let first = c.in_ok-number.ensures.extends.kept v second in
    let d = c.args.d.now in
    c.in_ok-among.ensures.value v h
    ∙ ap (λ b. cond (edge_value v d.is_symbol) b (edge_value v c.in_ok-number.number)) (negation_is v c.in_ok-outside.outside c.negation.result c.negation.ensures)
    ∙ among_by c.args.elements.now (edge_value v d.is_symbol) (slice_get d.symbols (number_of v d.code)) (integer_of v d.number) x (edge_value v c.in_ok-outside.outside) (edge_value v c.in_ok-number.number)
    (λ n q. c.in_ok-outside.ensures.value v n first ((λ i. slice_get (c.as_slice.ensures i) (number_of v (c.as_slice-2.ensures i))) ∙ q))
    (c.in_ok-number.ensures.value v second ∙ ap (λ l. list_any (is_element (value.Int (integer_of v l))) c.args.elements.now) c.as_slice-3.ensures) e
