-- The width is a constant.
use Rattle.std.proofs.Common.{rules}
use Rattle.std.proofs.lemmas.Int.{to_z-of_z}
use mir.Syntax.{w64}
use mir.Val.{SFits}
use Rattle.smv_value.specs.Results.{resized}
use Rattle.bit_table.proofs.OfComputing.{by_constant}
use Rattle.bit_table.proofs.known.resized_by.Goals as goal

pub returns-in_ok-other-in-Some-clause-value : goal.returns-in_ok-other-in-Some-clause-value
returns-in_ok-other-in-Some-clause-value c =
    let f : SFits w64 c.in-Some.width = search rules in
    by_constant c.args.graph.now resized c.args.a.now c.args.to.now c.in_ok-other-in-Some.other _ c.in-Some.width (to_z-of_z w64 c.in-Some.width f) c.in-Some.ensures c.in_ok-other-in-Some.ensures.value
