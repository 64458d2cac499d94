-- A boolean, and an integer between bounds.
use Rattle.std.proofs.Common.{rules, subst, sym, ◌∙◌}
use mir.Syntax.{w32}
use mir.Val.{SFits}
use Rattle.value_types.specs.declared.value_type.ValueType.{ValueType}
use Rattle.value_texts.specs.Read.{IsRead}
use Rattle.value_texts.proofs.OfReading.{range_passed}
use Rattle.value_texts.proofs.reading.read_by.Goals as goal

pub returns-in-Boolean : goal.returns-in-Boolean
returns-in-Boolean c =
    let names = c.args.symbols.now.names.now in
    subst (λ (t : ValueType). IsRead names t c.args.text.now c.boolean_read.result) (sym c.in-Boolean.is) (c.boolean_read.ensures names)

pub returns-in_ok-number-in-Range : goal.returns-in_ok-number-in-Range
returns-in_ok-number-in-Range c =
    let names = c.args.symbols.now.names.now in
    let low : SFits w32 c.in-Range.low = search rules in
    let high : SFits w32 c.in-Range.high = search rules in
    subst (λ (t : ValueType). IsRead names t c.args.text.now c.between.result) (range_passed c.in-Range.low c.in-Range.high low high ∙ sym c.in-Range.is)
    (c.between.ensures names c.args.text.now c.in_ok-number-in-Range.ensures)
