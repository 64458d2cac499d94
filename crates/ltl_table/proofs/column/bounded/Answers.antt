use Rattle.std.proofs.Common.{◌≡◌, ◌-◌, ◌≤◌, ℕ, List, Bool, ap, subst, arith}
use Rattle.ltl_meaning.specs.declared.node.UnaryOperator.{UnaryOperator}
use Rattle.ltl_meaning.specs.declared.node.BoundedOperator.{BoundedOperator}
use Rattle.ltl_meaning.specs.declared.node.Window.{Window}
use Rattle.ltl_meaning.specs.declared.word.Word.{Word}
use Rattle.ltl_meaning.specs.Ltl.{Ltl, past_height}
use Rattle.ltl_meaning.specs.Unfolded.{repeated, delay, widen}
use Rattle.ltl_meaning.specs.Truth.{Satisfies}
use Rattle.ltl_meaning.specs.Lasso.{on}
use Rattle.ltl_meaning.proofs.Windows.{repeated_none, repeated_rises}
use Rattle.ltl_table.specs.Columns.{Tells}
use Rattle.ltl_table.proofs.column.bounded.Goals as goal

-- what is told of an operator many times
abbrev Repeats-told : Word → ℕ → ℕ → UnaryOperator → ℕ → List Bool → List Bool → Type 0
Repeats-told w passes n o k a b =
    (f : Ltl) → past_height (repeated o k f) ≤ passes → Tells a n (Satisfies (on w) f) → Tells b n (Satisfies (on w) (repeated o k f))

-- the column of an operator with bounds, from those of its two steps
bounded_told : (word : Word) (passes n : ℕ) (u v : UnaryOperator) (o : BoundedOperator) (w : Window) (f : Ltl) (a b c : List Bool) → u ≡ widen o → v ≡ delay o →
    past_height (repeated (delay o) w.low (repeated (widen o) (w.high - w.low) f)) ≤ passes → Tells a n (Satisfies (on word) f) →
    Repeats-told word passes n u (w.high - w.low) a b → Repeats-told word passes n v w.low b c →
    Tells c n (Satisfies (on word) (repeated (delay o) w.low (repeated (widen o) (w.high - w.low) f)))
bounded_told word passes n u v o w f a b c eu ev low told first second =
    let g : Ltl = repeated (widen o) (w.high - w.low) f in
    let rises = repeated_rises g (delay o) 0 w.low (omega arith) in
    let none = ap past_height (repeated_none (delay o) g) in
    let middle = subst (λ p. Repeats-told word passes n p (w.high - w.low) a b) eu first f (omega (arith, rises, none, low)) told in
    subst (λ p. Repeats-told word passes n p w.low b c) ev second g low middle

pub returns : goal.returns
returns c = λ f low told.
    bounded_told c.args.word.now c.args.passes c.args.n c.widen.result c.delay.result c.args.operator c.args.window f
    c.args.operand.items c.in_ok-wide.wide.items c.in_ok-late.late.items c.widen.ensures c.delay.ensures
    low told c.in_ok-wide.ensures.told c.in_ok-late.ensures.told
