-- Each edge negated.
use Rattle.std.proofs.Common.{◌∙◌, ap, map, subst, sym}
use Rattle.bit_arith.specs.Number.{AllStand, flip}
use Rattle.bit_arith.proofs.Numbers.{AllStand-flip}
use Rattle.bit_operators.specs.Denoting.{StandsIn}
use Rattle.bit_operators.proofs.OfLogic.{inverted_boolean, inverted_word}
use Rattle.bit_operators.proofs.logic.inverted.Goals as goal

pub returns-in-Boolean-clause-value : goal.returns-in-Boolean-clause-value
returns-in-Boolean-clause-value c = λ v. inverted_boolean v c.args.a.now c.in-Boolean.x c.negation.result c.in-Boolean.is c.negation.ensures

pub returns-in_ok-bits-in-Word-clause-value : goal.returns-in_ok-bits-in-Word-clause-value
returns-in_ok-bits-in-Word-clause-value c = λ v.
    inverted_word v c.args.a.now c.in-Word.signed c.in-Word.bits c.in_ok-bits-in-Word.bits.items c.from_vec.result c.in-Word.is
    (c.in_ok-bits-in-Word.ensures ∙ ap (map flip) c.as_slice.ensures) c.from_vec.ensures

pub returns-in_ok-bits-in-Word-clause-stands : goal.returns-in_ok-bits-in-Word-clause-stands
returns-in_ok-bits-in-Word-clause-stands c = λ g h.
    subst (λ l. AllStand g l) (sym (c.from_vec.ensures ∙ c.in_ok-bits-in-Word.ensures ∙ ap (map flip) c.as_slice.ensures))
    (AllStand-flip g c.in-Word.bits (subst (λ s. StandsIn g s) c.in-Word.is h))
