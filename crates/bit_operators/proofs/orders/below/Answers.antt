-- Two words of one type, or two integers.
use Rattle.std.proofs.Common.{length, ap, sym, ◌∙◌}
use Rattle.bit_operators.specs.declared.symbolic.Symbolic.TheVariants as symbolic
use Rattle.std.specs.Prelude.{int_lt}
use Rattle.bit_operators.specs.Denoting.{integer_of}
use Rattle.bit_operators.proofs.OfLogic.{sign_is}
use Rattle.bit_operators.proofs.OfNumbers.{integers_greater, integers_less, words_greater, words_less}
use Rattle.bit_operators.proofs.orders.below.Goals as goal

pub returns-in_ok-e-in-Word-Word-clause-less : goal.returns-in_ok-e-in-Word-Word-clause-less
returns-in_ok-e-in-Word-Word-clause-less c = λ v h.
    words_less v c.args.a.now c.args.b.now c.in-Word-Word.signed c.in-Word-Word.other_signed c.as_slice.result.now c.as_slice-then-len.result.now c.in_ok-e-in-Word-Word.e
    (c.in-Word-Word.is-0 ∙ ap (symbolic.Word c.in-Word-Word.signed) (sym c.as_slice.ensures)) (c.in-Word-Word.is-1 ∙ ap (symbolic.Word c.in-Word-Word.other_signed) (sym c.as_slice-then-len.ensures))
    (sign_is c.in-Word-Word.signed c.in-Word-Word.other_signed c.if-signed-other_signed.true) (ap length c.as_slice.ensures ∙ sym c.len.ensures ∙ c.if-len.true ∙ c.len-then-signed-other_signed.ensures ∙ sym (ap length c.as_slice-then-len.ensures)) (c.in_ok-e-in-Word-Word.ensures.value v h)

pub returns-in_ok-e-in-Discrete-Discrete-clause-less : goal.returns-in_ok-e-in-Discrete-Discrete-clause-less
returns-in_ok-e-in-Discrete-Discrete-clause-less c = λ v h.
    integers_less v c.args.a.now c.args.b.now c.in-Discrete-Discrete.x c.in-Discrete-Discrete.y c.in_ok-e-in-Discrete-Discrete.e
    c.in-Discrete-Discrete.is-0 c.in-Discrete-Discrete.is-1
    (c.in_ok-e-in-Discrete-Discrete.ensures.value v h
    ∙ (λ i. int_lt (integer_of v (c.as_slice-in-Discrete-Discrete.ensures i)) (integer_of v (c.as_slice-in-Discrete-Discrete-2.ensures i))))

pub returns-in_ok-e-in-Word-Word-clause-greater : goal.returns-in_ok-e-in-Word-Word-clause-greater
returns-in_ok-e-in-Word-Word-clause-greater c = λ v h.
    words_greater v c.args.a.now c.args.b.now c.in-Word-Word.signed c.in-Word-Word.other_signed c.as_slice.result.now c.as_slice-then-len.result.now c.in_ok-e-in-Word-Word.e
    (c.in-Word-Word.is-0 ∙ ap (symbolic.Word c.in-Word-Word.signed) (sym c.as_slice.ensures)) (c.in-Word-Word.is-1 ∙ ap (symbolic.Word c.in-Word-Word.other_signed) (sym c.as_slice-then-len.ensures))
    (sign_is c.in-Word-Word.signed c.in-Word-Word.other_signed c.if-signed-other_signed.true) (ap length c.as_slice.ensures ∙ sym c.len.ensures ∙ c.if-len.true ∙ c.len-then-signed-other_signed.ensures ∙ sym (ap length c.as_slice-then-len.ensures)) (c.in_ok-e-in-Word-Word.ensures.value v h)

pub returns-in_ok-e-in-Discrete-Discrete-clause-greater : goal.returns-in_ok-e-in-Discrete-Discrete-clause-greater
returns-in_ok-e-in-Discrete-Discrete-clause-greater c = λ v h.
    integers_greater v c.args.a.now c.args.b.now c.in-Discrete-Discrete.x c.in-Discrete-Discrete.y c.in_ok-e-in-Discrete-Discrete.e
    c.in-Discrete-Discrete.is-0 c.in-Discrete-Discrete.is-1
    (c.in_ok-e-in-Discrete-Discrete.ensures.value v h
    ∙ (λ i. int_lt (integer_of v (c.as_slice-in-Discrete-Discrete.ensures i)) (integer_of v (c.as_slice-in-Discrete-Discrete-2.ensures i))))
