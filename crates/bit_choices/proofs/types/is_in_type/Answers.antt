-- Integers between the bounds.
use Rattle.std.proofs.Common.{rules, sym, ap, ◌∙◌}
use mir.Syntax.{w32}
use mir.Val.{SFits}
use Rattle.value_types.specs.Types.{is_between, is_of_type}
use Rattle.bit_choices.proofs.OfRanges.{widened}
use Rattle.bit_choices.proofs.types.is_in_type.Goals as goal

pub returns-in_ok-e-in-Range-clause-value : goal.returns-in_ok-e-in-Range-clause-value
returns-in_ok-e-in-Range-clause-value c = λ v x h e.
    let f : SFits w32 c.in-Range.low = search rules in
    let g : SFits w32 c.in-Range.high = search rules in
    let low = widened c.from.result c.in-Range.low f c.from.ensures in
    let high = widened c.from-in-Range.result c.in-Range.high g c.from-in-Range.ensures in
    c.in_ok-e-in-Range.ensures.value v x h e ∙ (λ t. is_between (low t) (high t) x) ∙ ap (is_of_type x) (sym c.in-Range.is)
