-- Operators with bounds, step by step: `F [a, b] p` is `X` a times over `F [0, 1]` b - a times over p, and
-- so are the others, by `X`, `Y` or `Z`.
use Rattle.std.specs.Prelude.{ℕ, zero, suc, ◌-◌}
use Rattle.ltl_meaning.specs.declared.node.UnaryOperator.{UnaryOperator}
use Rattle.ltl_meaning.specs.declared.node.BoundedOperator.{BoundedOperator}
use Rattle.ltl_meaning.specs.Ltl.{Ltl}
use Rattle.ltl_meaning.specs.Temporal.{Temporal}

-- the operator that looks one time further
abbrev pub delay : BoundedOperator → UnaryOperator
delay BoundedOperator.Finally = UnaryOperator.Next
delay BoundedOperator.Globally = UnaryOperator.Next
delay BoundedOperator.Once = UnaryOperator.Yesterday
delay BoundedOperator.Historically = UnaryOperator.WeakYesterday

-- the operator that looks at one time more
abbrev pub widen : BoundedOperator → UnaryOperator
widen BoundedOperator.Finally = UnaryOperator.NowOrNext
widen BoundedOperator.Globally = UnaryOperator.NowAndNext
widen BoundedOperator.Once = UnaryOperator.NowOrBefore
widen BoundedOperator.Historically = UnaryOperator.NowAndBefore

-- an operator n times
unfoldable pub repeated : UnaryOperator → ℕ → Ltl → Ltl
repeated o zero f = f
repeated o (suc n) f = Ltl.Unary o (repeated o n f)

-- the same formula, without bounds
abbrev pub unfolded : Temporal → Ltl
unfolded (Temporal.Constant b) = Ltl.Constant b
unfolded (Temporal.Atom a) = Ltl.Atom a
unfolded (Temporal.Unary o f) = Ltl.Unary o (unfolded f)
unfolded (Temporal.Bounded o w f) = repeated (delay o) w.low (repeated (widen o) (w.high - w.low) (unfolded f))
unfolded (Temporal.Binary o f g) = Ltl.Binary o (unfolded f) (unfolded g)
