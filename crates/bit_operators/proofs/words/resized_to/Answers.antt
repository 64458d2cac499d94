-- So many bits.
use Rattle.std.proofs.Common.{◌∙◌, length}
use Rattle.smv_value.specs.Results.{number_of_word, low_bits}
use Rattle.bit_arith.specs.Number.{number_of}
use Rattle.bit_operators.proofs.OfWords.{resized_word}
use Rattle.bit_operators.proofs.words.resized_to.Goals as goal

pub returns-in_ok-other-in-Word-clause-value : goal.returns-in_ok-other-in-Word-clause-value
returns-in_ok-other-in-Word-clause-value c = λ v h.
    resized_word v c.args.a.now c.in-Word.signed c.in-Word.bits c.in_ok-other-in-Word.other.items c.from_vec.result c.args.to c.in-Word.is
    c.in_ok-other-in-Word.ensures.length
    (c.in_ok-other-in-Word.ensures.value v h
    ∙ (λ i. low_bits c.args.to (number_of_word c.in-Word.signed (length (c.as_slice.ensures i)) (number_of v (c.as_slice.ensures i)))))
    c.from_vec.ensures
