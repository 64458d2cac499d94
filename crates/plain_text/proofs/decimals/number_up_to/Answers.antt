use Rattle.std.proofs.Common.{sym, arith}
use Rattle.plain_text.specs.Decimals.{number_up_to}
use Rattle.plain_text.proofs.OfDecimals.{digits_utf8, number_told, number_past, number_missing}
use Rattle.plain_text.proofs.decimals.number_up_to.Goals as goal

pub returns-then-not-are_digits-clause-value : goal.returns-then-not-are_digits-clause-value
unfolding number_up_to
returns-then-not-are_digits-clause-value c = grind (arith, c.are_digits.ensures, c.if-not-are_digits.true)

pub returns-in_default-clause-value : goal.returns-in_default-clause-value
returns-in_default-clause-value c = absurd (c.in_default.ensures.cases.0 (digits_utf8 c.args.bytes.now (sym c.if-not-are_digits.ensures)))

pub returns-in-Ok-parse-clause-value : goal.returns-in-Ok-parse-clause-value
returns-in-Ok-parse-clause-value c =
    number_told c.args.limit c.args.bytes.now c.in-Ok.text.now c.in-Ok.ensures.cases.0 (sym c.if-not-are_digits.ensures) c.parse.result c.parse.ensures.value.0 c.in-Ok-parse.number c.in-Ok-parse.is c.if-number-limit.true

pub returns-in_default-parse-clause-value : goal.returns-in_default-parse-clause-value
returns-in_default-parse-clause-value c =
    number_past c.args.limit c.args.bytes.now c.in-Ok.text.now c.in-Ok.ensures.cases.0 (sym c.if-not-are_digits.ensures) c.parse.result c.parse.ensures.value.0 c.in-Ok-parse.number c.in-Ok-parse.is c.if-number-limit.false

pub returns-in_default-parse-2-clause-value : goal.returns-in_default-parse-2-clause-value
returns-in_default-parse-2-clause-value c =
    number_missing c.args.limit c.args.bytes.now c.in-Ok.text.now c.in-Ok.ensures.cases.0 (sym c.if-not-are_digits.ensures) c.parse.result c.parse.ensures.value.0 c.in_default-parse.field-0 c.in_default-parse.is c.ranges.limit.fits
