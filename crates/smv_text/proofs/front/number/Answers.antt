use Rattle.std.proofs.Common.{sym, ◌∙◌}
use Rattle.smv_text.proofs.Longest.{digits_longest, constant_longest}
use Rattle.smv_text.proofs.front.number.Goals as goal

pub returns-then-begins_constant : goal.returns-then-begins_constant
returns-then-begins_constant c =
    constant_longest c.args.bytes.now c.split_at.result.0.now c.constant_len-len.result c.constant_of.result (sym c.begins_constant.ensures ∙ c.if-begins_constant.true) c.constant_len-len.ensures.value c.split_at.ensures.front c.constant_of.ensures

pub returns : goal.returns
returns c =
    digits_longest c.args.bytes.now c.split_at-2.result.0.now c.run_len-len.result c.integer_of.result c.requires.some c.requires.other c.requires.digit (sym c.begins_constant.ensures ∙ c.if-begins_constant.false) c.run_len-len.ensures.run
    c.split_at-2.ensures.front c.integer_of.ensures
