-- The width is a constant.
use Rattle.std.proofs.Common.{rules}
use Rattle.std.proofs.lemmas.Int.{to_z-of_z}
use mir.Syntax.{w64}
use mir.Val.{SFits}
use Rattle.smv_value.specs.Results.{constant_word}
use Rattle.bit_table.proofs.OfComputing.{by_constant}
use Rattle.bit_table.proofs.known.word_of_constants.Goals as goal

pub returns-in_ok-word-in-Some-clause-value : goal.returns-in_ok-word-in-Some-clause-value
returns-in_ok-word-in-Some-clause-value c =
    let f : SFits w64 c.in-Some.bits = search rules in
    by_constant c.args.graph.now (constant_word c.args.signed) c.args.z.now c.args.width.now c.in_ok-word-in-Some.word _ c.in-Some.bits (to_z-of_z w64 c.in-Some.bits f) c.in-Some.ensures c.in_ok-word-in-Some.ensures.value
