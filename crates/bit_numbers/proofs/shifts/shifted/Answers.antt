-- By an integer.
use Rattle.std.proofs.Common.{length, sym, ap, ◌∙◌}
use Rattle.bit_operators.specs.declared.symbolic.Symbolic.TheVariants as symbolic
use Rattle.bit_operators.specs.Denoting.{integer_of}
use Rattle.bit_numbers.specs.Shifts.{is_outside}
use Rattle.bit_numbers.proofs.OfOperators.{shifted_by_integer}
use Rattle.bit_numbers.proofs.shifts.shifted.Goals as goal

pub returns-in_ok-made-in-Word-Discrete-clause-value : goal.returns-in_ok-made-in-Word-Discrete-clause-value
returns-in_ok-made-in-Word-Discrete-clause-value c = λ v h.
    let before = c.in_ok-made-in-Word-Discrete.ensures.extends.kept v h in
    let s = c.in-Word-Discrete.signed in
    shifted_by_integer v c.args.o c.args.a.now c.args.b.now s c.in-Word-Discrete.by c.as_slice-in-Word-Discrete-3.result.now c.as_slice-in-Word-Discrete-4.result.now c.in_ok-made-in-Word-Discrete.made.items
    c.from_vec-in-Word-Discrete.result c.negation.result c.in_ok-past-in-Word-Discrete.past c.in_ok-far-in-Word-Discrete.far
    (c.in-Word-Discrete.is-0 ∙ ap (symbolic.Word s) (sym c.as_slice-in-Word-Discrete-3.ensures)) c.in-Word-Discrete.is-1 c.as_slice-in-Word-Discrete-4.ensures c.negation.ensures
    (c.in_ok-past-in-Word-Discrete.ensures.value v (c.in_ok-far-in-Word-Discrete.ensures.extends.kept v before)
    ∙ (λ i. is_outside (length ((c.as_slice-in-Word-Discrete-2.ensures ∙ sym c.as_slice-in-Word-Discrete-3.ensures) i)) (integer_of v ((c.as_slice-in-Word-Discrete.ensures ∙ sym c.as_slice-in-Word-Discrete-4.ensures) i))))
    (c.in_ok-far-in-Word-Discrete.ensures.value v before) c.in_ok-made-in-Word-Discrete.ensures.length (c.in_ok-made-in-Word-Discrete.ensures.value v h) c.from_vec-in-Word-Discrete.ensures
