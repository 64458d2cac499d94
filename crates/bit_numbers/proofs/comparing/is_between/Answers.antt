-- No symbol, and an integer between the bounds.
use Rattle.std.proofs.Common.{refl, sym, ap, ◌&&◌, ◌∙◌}
use Rattle.std.specs.Prelude.{int_le}
use Rattle.std.proofs.lemmas.Int.{to_z-of_z}
use mir.Syntax.{w64}
use Rattle.value_types.specs.Types.{is_between}
use Rattle.bit_operators.specs.Denoting.{denoted, integer_of}
use Rattle.bit_numbers.proofs.OfTests.{tested}
use Rattle.bit_numbers.proofs.comparing.is_between.Goals as goal

pub returns-in_ok-both-in-Discrete-clause-value : goal.returns-in_ok-both-in-Discrete-clause-value
returns-in_ok-both-in-Discrete-clause-value c = λ v x h e.
    tested v (is_between c.args.low c.args.high) (λ z. int_le c.args.low z && int_le z c.args.high) c.in-Discrete.d c.negation.result c.in_ok-within-in-Discrete.within c.in_ok-both-in-Discrete.both x
    (record { integer = λ z. refl; symbol = λ n. refl }) c.negation.ensures
    (c.in_ok-within-in-Discrete.ensures.value v (c.in_ok-both-in-Discrete.ensures.extends.kept v h)
    ∙ (λ i. int_le (to_z-of_z w64 c.args.low c.ranges.low i) (integer_of v (c.as_slice.ensures i)) && int_le (integer_of v (c.as_slice.ensures i)) (to_z-of_z w64 c.args.high c.ranges.high i)))
    (c.in_ok-both-in-Discrete.ensures.value v h) (sym (ap (denoted v) c.in-Discrete.is) ∙ e)
