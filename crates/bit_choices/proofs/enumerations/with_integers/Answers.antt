-- Integers in a row.
use Rattle.std.proofs.Common.{◌≡◌, ◌+ℤ◌, pos, sym, ap, ◌∙◌, rules}
use Rattle.std.specs.Prelude.{Some, int_le}
use Rattle.std.proofs.lemmas.Int.{to_z-of_z}
use mir.Syntax.{w64}
use mir.Val.{SFits}
use Rattle.smv_value.specs.declared.value.Value.TheVariants as value
use Rattle.bit_arith.specs.Number.{number_of}
use Rattle.bit_choices.proofs.OfElements.{run_value}
use Rattle.bit_choices.proofs.enumerations.with_integers.Goals as goal

pub returns-in_ok-number-in-Some-clause-value : goal.returns-in_ok-number-in-Some-clause-value
returns-in_ok-number-in-Some-clause-value c = λ v x h e.
    let run = c.in-Some.row in
    let f : SFits w64 run.low = search rules in
    let g : SFits w64 run.high = search rules in
    let low = to_z-of_z w64 run.low f in
    let high = to_z-of_z w64 run.high g in
    let n = number_of v c.args.bits.now in
    let is = run_value run.low run.high c.args.elements.now n x c.in-Some.ensures.run c.in-Some.ensures.high e in
    c.of_number.ensures.value v h
    ∙ ap (λ z. Some (value.Int z)) (c.in_ok-number-in-Some.ensures.value v h ((λ i. int_le (low i +ℤ pos n) (high i)) ∙ is.0) ∙ ap (λ y. y +ℤ pos n) low) ∙ ap Some is.1
