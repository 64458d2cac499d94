-- Integers in a row.
use Rattle.std.proofs.Common.{◌&&◌, ◌∙◌, rules}
use Rattle.std.specs.Prelude.{int_le}
use Rattle.std.proofs.lemmas.Int.{to_z-of_z}
use mir.Syntax.{w64}
use mir.Val.{SFits}
use Rattle.bit_operators.specs.Denoting.{integer_of}
use Rattle.bit_choices.proofs.OfElements.{among_run}
use Rattle.bit_choices.proofs.types.is_among_integers.Goals as goal

pub returns-in_ok-within-in-Some-clause-value : goal.returns-in_ok-within-in-Some-clause-value
returns-in_ok-within-in-Some-clause-value c = λ v h.
    let run = c.in-Some.row in
    let f : SFits w64 run.low = search rules in
    let g : SFits w64 run.high = search rules in
    let z = integer_of v c.args.number.now in
    c.in_ok-within-in-Some.ensures.value v h ∙ (λ i. int_le (to_z-of_z w64 run.low f i) z && int_le z (to_z-of_z w64 run.high g i))
    ∙ among_run run.low run.high z c.args.elements.now c.in-Some.ensures.run c.in-Some.ensures.high
