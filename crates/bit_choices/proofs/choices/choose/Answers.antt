-- Two booleans, two words of one type, or two discrete values.
use Rattle.std.proofs.Common.{length, cond, ap, sym, ◌∙◌}
use Rattle.bit_graph.specs.Meaning.{edge_value}
use Rattle.bit_operators.specs.declared.symbolic.Symbolic.TheVariants as symbolic
use Rattle.bit_operators.specs.Denoting.{denoted}
use Rattle.bit_operators.proofs.OfLogic.{sign_is}
use Rattle.bit_choices.proofs.OfValues.{chosen_boolean, chosen_word}
use Rattle.bit_choices.proofs.choices.choose.Goals as goal

pub returns-in_ok-e-in-Boolean-Boolean-clause-value : goal.returns-in_ok-e-in-Boolean-Boolean-clause-value
returns-in_ok-e-in-Boolean-Boolean-clause-value c = λ v p h g.
    chosen_boolean v (edge_value v c.args.condition) c.args.a.now c.args.b.now c.in-Boolean-Boolean.x c.in-Boolean-Boolean.y c.in_ok-e-in-Boolean-Boolean.e p
    c.in-Boolean-Boolean.is-0 c.in-Boolean-Boolean.is-1 (c.in_ok-e-in-Boolean-Boolean.ensures.value v h) g

pub returns-in_ok-chosen-in-Word-Word-clause-value : goal.returns-in_ok-chosen-in-Word-Word-clause-value
returns-in_ok-chosen-in-Word-Word-clause-value c = λ v p h g.
    chosen_word v (edge_value v c.args.condition) c.args.a.now c.args.b.now c.in-Word-Word.signed c.in-Word-Word.other_signed c.as_slice.result.now c.as_slice-then-len.result.now
    c.in_ok-chosen-in-Word-Word.chosen.items c.from_vec.result p
    (c.in-Word-Word.is-0 ∙ ap (symbolic.Word c.in-Word-Word.signed) (sym c.as_slice.ensures)) (c.in-Word-Word.is-1 ∙ ap (symbolic.Word c.in-Word-Word.other_signed) (sym c.as_slice-then-len.ensures))
    (sign_is c.in-Word-Word.signed c.in-Word-Word.other_signed c.if-signed-other_signed.true)
    (ap length c.as_slice.ensures ∙ sym c.len.ensures ∙ c.if-len.true ∙ c.len-then-signed-other_signed.ensures ∙ sym (ap length c.as_slice-then-len.ensures))
    c.in_ok-chosen-in-Word-Word.ensures.length (c.in_ok-chosen-in-Word-Word.ensures.value v h) c.from_vec.ensures g

pub returns-in_ok-d-in-Discrete-Discrete-clause-value : goal.returns-in_ok-d-in-Discrete-Discrete-clause-value
returns-in_ok-d-in-Discrete-Discrete-clause-value c = λ v p h g.
    c.in_ok-d-in-Discrete-Discrete.ensures.value v p h
    (sym (λ i. cond (edge_value v c.args.condition) (denoted v (c.in-Discrete-Discrete.is-0 i)) (denoted v (c.in-Discrete-Discrete.is-1 i))) ∙ g)
