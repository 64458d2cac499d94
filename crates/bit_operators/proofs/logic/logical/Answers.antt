-- Two booleans, or two words bit by bit.
use Rattle.std.proofs.Common.{length, ap, sym, ◌∙◌}
use Rattle.bit_operators.specs.declared.symbolic.Symbolic.TheVariants as symbolic
use Rattle.bit_operators.proofs.OfLogic.{booleans_logic, sign_is, words_logic}
use Rattle.bit_operators.proofs.logic.logical.Goals as goal

pub returns-in_ok-e-in-Boolean-Boolean-clause-value : goal.returns-in_ok-e-in-Boolean-Boolean-clause-value
returns-in_ok-e-in-Boolean-Boolean-clause-value c = λ v h.
    booleans_logic v c.args.o c.args.a.now c.args.b.now c.in-Boolean-Boolean.x c.in-Boolean-Boolean.y c.in_ok-e-in-Boolean-Boolean.e
    c.in-Boolean-Boolean.is-0 c.in-Boolean-Boolean.is-1 (c.in_ok-e-in-Boolean-Boolean.ensures.value v h)

pub returns-in_ok-bits-in-Word-Word-clause-value : goal.returns-in_ok-bits-in-Word-Word-clause-value
returns-in_ok-bits-in-Word-Word-clause-value c = λ v h.
    words_logic v c.args.o c.args.a.now c.args.b.now c.in-Word-Word.signed c.in-Word-Word.other_signed c.as_slice.result.now c.as_slice-then-len.result.now
    c.in_ok-bits-in-Word-Word.bits.items c.from_vec.result (c.in-Word-Word.is-0 ∙ ap (symbolic.Word c.in-Word-Word.signed) (sym c.as_slice.ensures)) (c.in-Word-Word.is-1 ∙ ap (symbolic.Word c.in-Word-Word.other_signed) (sym c.as_slice-then-len.ensures))
    (sign_is c.in-Word-Word.signed c.in-Word-Word.other_signed c.if-signed-other_signed.true) (ap length c.as_slice.ensures ∙ sym c.len.ensures ∙ c.if-len.true ∙ c.len-then-signed-other_signed.ensures ∙ sym (ap length c.as_slice-then-len.ensures)) c.in_ok-bits-in-Word-Word.ensures.length
    (c.in_ok-bits-in-Word-Word.ensures.value v h) c.from_vec.ensures
