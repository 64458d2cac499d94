-- Formulas of linear temporal logic with past whose operators have no bounds, as trees. The operators
-- are those of the NuSMV 2.6 User Manual, section 2.4.3 (LTL Specifications), and four that look at
-- this time and the one beside it, of which operators with bounds are made.
use Rattle.std.specs.Prelude.{ℕ, ◌+◌, max, Bool}
use Rattle.ltl_meaning.specs.declared.node.UnaryOperator.{UnaryOperator}
use Rattle.ltl_meaning.specs.declared.node.BinaryOperator.{BinaryOperator}

-- a formula: a constant, an atom by its number, or an operator over formulas
pub data Ltl : Type 0 where
  Constant : Bool → Ltl
  Atom : ℕ → Ltl
  Unary : UnaryOperator → Ltl → Ltl
  Binary : BinaryOperator → Ltl → Ltl → Ltl

-- 1 for an operator that looks at earlier times, else 0
abbrev pub past_unary : UnaryOperator → ℕ
past_unary UnaryOperator.Not = 0
past_unary UnaryOperator.Next = 0
past_unary UnaryOperator.Finally = 0
past_unary UnaryOperator.Globally = 0
past_unary UnaryOperator.Yesterday = 1
past_unary UnaryOperator.WeakYesterday = 1
past_unary UnaryOperator.Once = 1
past_unary UnaryOperator.Historically = 1
past_unary UnaryOperator.NowOrNext = 0
past_unary UnaryOperator.NowAndNext = 0
past_unary UnaryOperator.NowOrBefore = 1
past_unary UnaryOperator.NowAndBefore = 1

abbrev pub past_binary : BinaryOperator → ℕ
past_binary BinaryOperator.And = 0
past_binary BinaryOperator.Or = 0
past_binary BinaryOperator.Xor = 0
past_binary BinaryOperator.Xnor = 0
past_binary BinaryOperator.Implies = 0
past_binary BinaryOperator.Iff = 0
past_binary BinaryOperator.Until = 0
past_binary BinaryOperator.Releases = 0
past_binary BinaryOperator.Since = 1
past_binary BinaryOperator.Triggered = 1

-- how deep operators that look at earlier times nest
abbrev pub past_height : Ltl → ℕ
past_height (Ltl.Constant b) = 0
past_height (Ltl.Atom a) = 0
past_height (Ltl.Unary o f) = past_unary o + past_height f
past_height (Ltl.Binary o f g) = past_binary o + max (past_height f) (past_height g)
