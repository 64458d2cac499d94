-- No boolean and no word is one.
use Rattle.std.proofs.Common.{sym, ap, ◌∙◌}
use Rattle.bit_operators.specs.Denoting.{denoted}
use Rattle.bit_choices.proofs.OfElements.{boolean_no_element, word_no_element}
use Rattle.bit_choices.proofs.types.is_element_of.Goals as goal

pub returns-in-Boolean-clause-value : goal.returns-in-Boolean-clause-value
returns-in-Boolean-clause-value c = λ v x h e. c.constant.ensures.value v h ∙ boolean_no_element v c.args.a.now _ x c.args.elements.now c.in-Boolean.is e

pub returns-in-Word-clause-value : goal.returns-in-Word-clause-value
returns-in-Word-clause-value c = λ v x h e. c.constant-in-Word.ensures.value v h ∙ word_no_element v c.args.a.now _ _ x c.args.elements.now c.in-Word.is e
