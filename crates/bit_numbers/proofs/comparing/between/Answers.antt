-- Neither below nor above.
use Rattle.std.proofs.Common.{ap, ◌∙◌}
use Rattle.std.specs.Prelude.{int_lt}
use Rattle.std.proofs.lemmas.Int.{to_z-of_z}
use mir.Syntax.{w64}
use Rattle.bit_operators.specs.Denoting.{integer_of}
use Rattle.bit_numbers.proofs.OfTests.{between_is}
use Rattle.bit_numbers.proofs.comparing.between.Goals as goal

pub returns-clause-value : goal.returns-clause-value
returns-clause-value c = λ v h.
    let before = c.in_ok-within.ensures.extends.kept v h in
    let z = integer_of v c.args.bits.now in
    between_is v c.args.low c.args.high z c.in_ok-under.under c.in_ok-over.over c.negation.result c.negation-2.result c.in_ok-within.within
    (c.in_ok-under.ensures.value v (c.in_ok-over.ensures.extends.kept v before) ∙ ap (λ y. int_lt z y) (to_z-of_z w64 c.args.low c.ranges.low))
    (c.in_ok-over.ensures.value v before ∙ ap (λ y. int_lt y z) (to_z-of_z w64 c.args.high c.ranges.high)) c.negation.ensures c.negation-2.ensures (c.in_ok-within.ensures.value v h)
