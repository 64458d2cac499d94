-- A word without a sign is not below 0.
use Rattle.std.proofs.Common.{◌∙◌, ap, sym, length}
use Rattle.bit_arith.specs.Number.{number_of}
use Rattle.bit_operators.specs.Resizing.{is_below_zero}
use Rattle.bit_operators.proofs.resizing.sign.Goals as goal

pub returns-then-signed-clause-value : goal.returns-then-signed-clause-value
returns-then-signed-clause-value c = λ v h.
    c.top.ensures.value v h ∙ sym (ap (λ s. is_below_zero s (length c.args.bits.now) (number_of v c.args.bits.now)) c.if-signed.true)

pub returns-else-signed-clause-value : goal.returns-else-signed-clause-value
returns-else-signed-clause-value c = λ v h.
    c.constant.ensures.value v h ∙ sym (ap (λ s. is_below_zero s (length c.args.bits.now) (number_of v c.args.bits.now)) c.if-signed.false)
