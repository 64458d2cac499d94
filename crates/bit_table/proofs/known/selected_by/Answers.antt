-- The highest bit is a constant.
use Rattle.std.proofs.Common.{rules}
use Rattle.std.proofs.lemmas.Int.{to_z-of_z}
use mir.Syntax.{w64}
use mir.Val.{SFits}
use Rattle.smv_value.specs.Results.{selected}
use Rattle.bit_table.proofs.OfComputing.{by_top}
use Rattle.bit_table.proofs.known.selected_by.Goals as goal

pub returns-in_ok-part-in-Some-clause-value : goal.returns-in_ok-part-in-Some-clause-value
returns-in_ok-part-in-Some-clause-value c =
    let f : SFits w64 c.in-Some.top = search rules in
    by_top c.args.graph.now selected c.args.a.now c.args.high.now c.args.low.now c.in_ok-part-in-Some.part _ c.in-Some.top (to_z-of_z w64 c.in-Some.top f) c.in-Some.ensures c.in_ok-part-in-Some.ensures.value
