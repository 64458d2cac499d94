-- The low bits first.
use Rattle.std.proofs.Common.{◌++◌, ◌∙◌}
use Rattle.bit_operators.proofs.OfWords.{joined_words}
use Rattle.bit_operators.proofs.words.joined.Goals as goal

pub returns-in_ok-bits-in-Word-Word-clause-value : goal.returns-in_ok-bits-in-Word-Word-clause-value
returns-in_ok-bits-in-Word-Word-clause-value c = λ v.
    joined_words v c.args.a.now c.args.b.now c.in-Word-Word.signed-0 c.in-Word-Word.signed-1 c.in-Word-Word.high c.in-Word-Word.low c.in_ok-bits-in-Word-Word.bits.items c.from_vec.result
    c.in-Word-Word.is-0 c.in-Word-Word.is-1 (c.in_ok-bits-in-Word-Word.ensures ∙ (λ i. c.as_slice.ensures i ++ c.as_slice-in-Word-Word.ensures i)) c.from_vec.ensures
