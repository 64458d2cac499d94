-- When a formula is true. Times are all natural numbers, and t0, the first, is 0. Each case is a line
-- of the NuSMV 2.6 User Manual, section 2.4.3 (LTL Specifications); what stands in quotes above it is
-- quoted from there.
use Rattle.std.specs.Prelude.{ℕ, zero, suc, ◌+◌, ◌<◌, ◌≤◌, ◌⊎◌, ◌↔◌, IsTrue}
use Rattle.ltl_meaning.specs.declared.node.UnaryOperator.{UnaryOperator}
use Rattle.ltl_meaning.specs.declared.node.BinaryOperator.{BinaryOperator}
use Rattle.ltl_meaning.specs.declared.node.BoundedOperator.{BoundedOperator}
use Rattle.ltl_meaning.specs.declared.node.Window.{Window}
use Rattle.ltl_meaning.specs.Ltl.{Ltl}
use Rattle.ltl_meaning.specs.Temporal.{Temporal}

-- what holds at each time
abbrev pub Moment : Type 1
Moment = ℕ → Type 0

-- "X p is true at time t if p is true at time t+1."
abbrev pub Next : Moment → Moment
Next P t = P (t + 1)

-- "F p is true at time t if p is true at some time t' ≥ t."
abbrev pub Finally : Moment → Moment
Finally P t = (u : ℕ) × (t ≤ u) × P u

-- "G p is true at time t if p is true at all times t' ≥ t."
abbrev pub Globally : Moment → Moment
Globally P t = (u : ℕ) → t ≤ u → P u

-- "p U q is true at time t if q is true at some time t' ≥ t, and for all time t'' (such that
-- t ≤ t'' < t') p is true."
abbrev pub Until : Moment → Moment → Moment
Until P Q t = (u : ℕ) × (t ≤ u) × Q u × ((v : ℕ) → t ≤ v → v < u → P v)

-- "p V q is true at time t if q holds at all time steps t' ≥ t up to and including the time step t''
-- where p also holds. Alternatively, it may be the case that p never holds in which case q must hold
-- in all time steps t' ≥ t." So at each time from t on, q holds or p held before: the dual of U.
abbrev pub Releases : Moment → Moment → Moment
Releases P Q t = (u : ℕ) → t ≤ u → Q u ⊎ ((v : ℕ) × (t ≤ v) × (v < u) × P v)

-- "Y p is true at time t > t0 if p holds at time t-1. Y p is false at time t0."
abbrev pub Yesterday : Moment → Moment
Yesterday P zero = ⊥
Yesterday P (suc t) = P t

-- "Z p is equivalent to Y p with the exception that the expression is true at time t0."
abbrev pub WeakYesterday : Moment → Moment
WeakYesterday P zero = Unit {0}
WeakYesterday P (suc t) = P t

-- "O p is true at time t if p held in at least one of the previous time steps t' ≤ t."
abbrev pub Once : Moment → Moment
Once P t = (u : ℕ) × (u ≤ t) × P u

-- "H p is true at time t if p holds in all previous time steps t' ≤ t."
abbrev pub Historically : Moment → Moment
Historically P t = (u : ℕ) → u ≤ t → P u

-- "p S q is true at time t if q held at time t' ≤ t and p holds in all time steps t'' such that
-- t' < t'' ≤ t."
abbrev pub Since : Moment → Moment → Moment
Since P Q t = (u : ℕ) × (u ≤ t) × Q u × ((v : ℕ) → u < v → v ≤ t → P v)

-- "p T q is true at time t if p held at time t' ≤ t and q holds in all time steps t'' such that
-- t' ≤ t'' ≤ t. Alternatively, if p has never been true, then q must hold in all time steps t'' such
-- that t0 ≤ t'' ≤ t." So at each time up to t, q holds or p held after: the dual of S.
abbrev pub Triggered : Moment → Moment → Moment
Triggered P Q t = (u : ℕ) → u ≤ t → Q u ⊎ ((v : ℕ) × (u < v) × (v ≤ t) × P v)

-- p now or at the next time; p now and at the next time; p now or at the time before; p now and at the
-- time before, if there is one
abbrev pub NowOrNext : Moment → Moment
NowOrNext P t = P t ⊎ Next P t

abbrev pub NowAndNext : Moment → Moment
NowAndNext P t = P t × Next P t

abbrev pub NowOrBefore : Moment → Moment
NowOrBefore P t = P t ⊎ Yesterday P t

abbrev pub NowAndBefore : Moment → Moment
NowAndBefore P t = P t × WeakYesterday P t

-- F [low, high] p: p is true at some time from t + low to t + high
abbrev pub FinallyWithin : ℕ → ℕ → Moment → Moment
FinallyWithin low high P t = (u : ℕ) × (t + low ≤ u) × (u ≤ t + high) × P u

-- G [low, high] p: p is true at each of these times
abbrev pub GloballyWithin : ℕ → ℕ → Moment → Moment
GloballyWithin low high P t = (u : ℕ) → t + low ≤ u → u ≤ t + high → P u

-- O [low, high] p: p is true at some time from t - high, or from the first, to t - low
abbrev pub OnceWithin : ℕ → ℕ → Moment → Moment
OnceWithin low high P t = (u : ℕ) × (t ≤ u + high) × (u + low ≤ t) × P u

-- H [low, high] p: p is true at each of these times
abbrev pub HistoricallyWithin : ℕ → ℕ → Moment → Moment
HistoricallyWithin low high P t = (u : ℕ) → t ≤ u + high → u + low ≤ t → P u

-- an operator with one operand, over what holds of it
abbrev pub unary_truth : UnaryOperator → Moment → Moment
unary_truth UnaryOperator.Not P t = ¬ P t
unary_truth UnaryOperator.Next P t = Next P t
unary_truth UnaryOperator.Finally P t = Finally P t
unary_truth UnaryOperator.Globally P t = Globally P t
unary_truth UnaryOperator.Yesterday P t = Yesterday P t
unary_truth UnaryOperator.WeakYesterday P t = WeakYesterday P t
unary_truth UnaryOperator.Once P t = Once P t
unary_truth UnaryOperator.Historically P t = Historically P t
unary_truth UnaryOperator.NowOrNext P t = NowOrNext P t
unary_truth UnaryOperator.NowAndNext P t = NowAndNext P t
unary_truth UnaryOperator.NowOrBefore P t = NowOrBefore P t
unary_truth UnaryOperator.NowAndBefore P t = NowAndBefore P t

-- an operator with bounds, over what holds of its operand
abbrev pub bounded_truth : BoundedOperator → Window → Moment → Moment
bounded_truth BoundedOperator.Finally w P t = FinallyWithin w.low w.high P t
bounded_truth BoundedOperator.Globally w P t = GloballyWithin w.low w.high P t
bounded_truth BoundedOperator.Once w P t = OnceWithin w.low w.high P t
bounded_truth BoundedOperator.Historically w P t = HistoricallyWithin w.low w.high P t

-- an operator with two operands, over what holds of each
abbrev pub binary_truth : BinaryOperator → Moment → Moment → Moment
binary_truth BinaryOperator.And P Q t = P t × Q t
binary_truth BinaryOperator.Or P Q t = P t ⊎ Q t
binary_truth BinaryOperator.Xor P Q t = (P t × (¬ Q t)) ⊎ ((¬ P t) × Q t)
binary_truth BinaryOperator.Xnor P Q t = P t ↔ Q t
binary_truth BinaryOperator.Implies P Q t = P t → Q t
binary_truth BinaryOperator.Iff P Q t = P t ↔ Q t
binary_truth BinaryOperator.Until P Q t = Until P Q t
binary_truth BinaryOperator.Releases P Q t = Releases P Q t
binary_truth BinaryOperator.Since P Q t = Since P Q t
binary_truth BinaryOperator.Triggered P Q t = Triggered P Q t

-- a formula is true at a time, where `atoms` says when each atom is
abbrev pub IsTrueAt : (ℕ → Moment) → Temporal → Moment
IsTrueAt atoms (Temporal.Constant b) t = IsTrue b
IsTrueAt atoms (Temporal.Atom a) t = atoms a t
IsTrueAt atoms (Temporal.Unary o f) t = unary_truth o (IsTrueAt atoms f) t
IsTrueAt atoms (Temporal.Bounded o w f) t = bounded_truth o w (IsTrueAt atoms f) t
IsTrueAt atoms (Temporal.Binary o f g) t = binary_truth o (IsTrueAt atoms f) (IsTrueAt atoms g) t

-- the same of one whose operators have no bounds
abbrev pub Satisfies : (ℕ → Moment) → Ltl → Moment
Satisfies atoms (Ltl.Constant b) t = IsTrue b
Satisfies atoms (Ltl.Atom a) t = atoms a t
Satisfies atoms (Ltl.Unary o f) t = unary_truth o (Satisfies atoms f) t
Satisfies atoms (Ltl.Binary o f g) t = binary_truth o (Satisfies atoms f) (Satisfies atoms g) t

-- what holds at a time from `start` on holds exactly where it holds `period` later
abbrev pub Repeats : ℕ → ℕ → Moment → Type 0
Repeats period start P = (t : ℕ) → start ≤ t → P t ↔ P (t + period)
