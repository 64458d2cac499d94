-- One bit.
use Rattle.bit_operators.proofs.OfWords.{word_of_boolean}
use Rattle.bit_operators.proofs.words.to_word.Goals as goal

pub returns-in_ok-bits-in-Boolean-clause-value : goal.returns-in_ok-bits-in-Boolean-clause-value
returns-in_ok-bits-in-Boolean-clause-value c = λ v. word_of_boolean v c.args.a.now c.in-Boolean.e c.in_ok-bits-in-Boolean.bits c.in-Boolean.is c.in_ok-bits-in-Boolean.ensures
