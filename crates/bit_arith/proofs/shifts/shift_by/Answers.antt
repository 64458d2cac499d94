use Rattle.std.proofs.Common.{arith, ◌≤◌, ◌∙◌, ap, sym, length}
use Rattle.bit_graph.specs.Meaning.{edge_value}
use Rattle.bit_arith.specs.Number.{number_of}
use Rattle.bit_arith.specs.Words.{shifted}
use Rattle.bit_arith.proofs.Numbers.{number-lt}
use Rattle.bit_arith.proofs.Horner.{AllStand-constant}
use Rattle.bit_arith.proofs.Moves.{number-constant, number-left, number-right, shifted_far}
use Rattle.bit_arith.proofs.shifts.shift_by.Goals as goal

pub returns-in_ok-filled-clause-value : goal.returns-in_ok-filled-clause-value
returns-in_ok-filled-clause-value c = λ v.
    ap (number_of v) c.in_ok-filled.ensures
    ∙ number-constant (edge_value v) c.args.fill c.args.a.now
    ∙ sym (shifted_far c.args.left (edge_value v c.args.fill) (length c.args.a.now) c.args.step (number_of v c.args.a.now) c.if-step-a.true (number-lt (edge_value v) c.args.a.now))

pub returns-in_ok-filled-clause-stands : goal.returns-in_ok-filled-clause-stands
returns-in_ok-filled-clause-stands c = λ g s f. rw c.in_ok-filled.ensures (AllStand-constant g c.args.fill c.args.a.now f)

pub returns-in_ok-up-clause-value : goal.returns-in_ok-up-clause-value
returns-in_ok-up-clause-value c = λ v.
    let le : c.args.step ≤ length c.args.a.now = omega arith in
    ap (number_of v) c.in_ok-up.ensures ∙ number-left (edge_value v) c.args.fill c.args.step c.args.a.now le
    ∙ ap (λ left. shifted left (length c.args.a.now) c.args.step (edge_value v c.args.fill) (number_of v c.args.a.now)) (sym c.if-left.true)

pub returns-in_ok-down-clause-value : goal.returns-in_ok-down-clause-value
returns-in_ok-down-clause-value c = λ v.
    let le : c.args.step ≤ length c.args.a.now = omega arith in
    ap (number_of v) c.in_ok-down.ensures ∙ number-right (edge_value v) c.args.fill c.args.step c.args.a.now le
    ∙ ap (λ left. shifted left (length c.args.a.now) c.args.step (edge_value v c.args.fill) (number_of v c.args.a.now)) (sym c.if-left.false)
