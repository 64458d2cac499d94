-- The same bits.
use Rattle.std.proofs.Common.{◌∙◌}
use Rattle.bit_operators.proofs.OfWords.{word_with_sign}
use Rattle.bit_operators.proofs.words.with_sign.Goals as goal

pub returns-in_ok-bits-in-Word-clause-value : goal.returns-in_ok-bits-in-Word-clause-value
returns-in_ok-bits-in-Word-clause-value c = λ v.
    word_with_sign v c.args.a.now _ c.args.signed c.in-Word.bits c.in_ok-bits-in-Word.bits c.in-Word.is (c.in_ok-bits-in-Word.ensures ∙ c.as_slice.ensures)
