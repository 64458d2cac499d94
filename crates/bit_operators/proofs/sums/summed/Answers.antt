-- Two words of one type, or two integers.
use Rattle.std.proofs.Common.{length, ap, sym, ◌∙◌}
use Rattle.bit_operators.specs.declared.symbolic.Symbolic.TheVariants as symbolic
use Rattle.bit_operators.proofs.OfLogic.{sign_is}
use Rattle.bit_operators.proofs.OfNumbers.{integers_sum_by, words_sum}
use Rattle.bit_operators.specs.Denoting.{integer_of}
use Rattle.bit_operators.proofs.sums.summed.Goals as goal

pub returns-in_ok-sum-in-Word-Word-clause-value : goal.returns-in_ok-sum-in-Word-Word-clause-value
returns-in_ok-sum-in-Word-Word-clause-value c = λ v h.
    words_sum v c.args.o c.args.a.now c.args.b.now c.in-Word-Word.signed c.in-Word-Word.other_signed c.as_slice.result.now c.as_slice-then-len.result.now
    c.in_ok-sum-in-Word-Word.sum.items c.from_vec.result (c.in-Word-Word.is-0 ∙ ap (symbolic.Word c.in-Word-Word.signed) (sym c.as_slice.ensures)) (c.in-Word-Word.is-1 ∙ ap (symbolic.Word c.in-Word-Word.other_signed) (sym c.as_slice-then-len.ensures))
    (sign_is c.in-Word-Word.signed c.in-Word-Word.other_signed c.if-signed-other_signed.true) (ap length c.as_slice.ensures ∙ sym c.len.ensures ∙ c.if-len.true ∙ c.len-then-signed-other_signed.ensures ∙ sym (ap length c.as_slice-then-len.ensures)) c.in_ok-sum-in-Word-Word.ensures.length
    (λ w. c.in_ok-sum-in-Word-Word.ensures.value v c.in-Word-Word.signed h w) c.from_vec.ensures

pub returns-in_ok-sum-in-Discrete-Discrete-clause-value : goal.returns-in_ok-sum-in-Discrete-Discrete-clause-value
returns-in_ok-sum-in-Discrete-Discrete-clause-value c = λ v h.
    integers_sum_by v c.args.o c.args.a.now c.args.b.now c.integer.result c.in-Discrete-Discrete.x c.in-Discrete-Discrete.y
    c.as_slice-in-Discrete-Discrete.result.now c.as_slice-in-Discrete-Discrete-2.result.now (integer_of v c.in_ok-sum-in-Discrete-Discrete.sum.items)
    c.in-Discrete-Discrete.is-0 c.in-Discrete-Discrete.is-1 c.as_slice-in-Discrete-Discrete.ensures c.as_slice-in-Discrete-Discrete-2.ensures (c.integer.ensures.value v h)
    (c.in_ok-sum-in-Discrete-Discrete.ensures.value v h)
