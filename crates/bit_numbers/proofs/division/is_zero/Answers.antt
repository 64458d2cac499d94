-- No symbol, and the number 0.
use Rattle.std.proofs.Common.{refl, sym, ap, ◌∙◌, ◌&&◌, pos, eqb, length}
use Rattle.std.specs.Prelude.{int_le}
use Rattle.smv_value.specs.Results.{is_zero}
use Rattle.bit_graph.specs.Meaning.{edge_value}
use Rattle.bit_arith.specs.Number.{number_of}
use Rattle.bit_arith.proofs.Numbers.{number-lt}
use Rattle.bit_numbers.proofs.OfIntegers.{zero_number}
use Rattle.bit_numbers.proofs.OfTests.{tested}
use Rattle.bit_numbers.proofs.division.is_zero.Goals as goal

pub returns-clause-value : goal.returns-clause-value
returns-clause-value c = λ v x h e.
    let d = c.args.d.now in
    tested v is_zero (λ z. int_le (pos 0) z && int_le z (pos 0)) d c.negation.result c.in_ok-zero.zero c.in_ok-both.both x
    (record { integer = λ z. refl; symbol = λ n. refl }) c.negation.ensures
    (c.in_ok-zero.ensures.value v (c.in_ok-both.ensures.extends.kept v h) ∙ ap (λ l. eqb (number_of v l) 0) c.as_slice.ensures
    ∙ zero_number (length d.number) (number_of v d.number) (number-lt (edge_value v) d.number))
    (c.in_ok-both.ensures.value v h) e
