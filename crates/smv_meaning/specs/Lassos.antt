-- Lassos of a program, the truth of a temporal formula on them, and what violates it (NuSMV 2.6 User Manual, 2.4.3, LTL
-- Specifications).
use Rattle.std.specs.Prelude.{◌≡◌, ℕ, zero, suc, ◌+◌, ◌-◌, ◌%◌, ◌<◌, ◌≤◌, Bool, true, false, ◌||◌, nat_lt, if◌then◌else◌, List, [], length, Contains}
use Rattle.smv_tree.specs.declared.tree.Program.{Program}
use Rattle.smv_tree.specs.declared.tree.ConstraintKind.TheVariants as asked
use Rattle.smv_value.specs.declared.operator.Operator.{Operator}
use Rattle.smv_value.specs.declared.operator.Operator.TheVariants as operator
use Rattle.smv_value.specs.declared.operator.Logic.{Logic}
use Rattle.smv_value.specs.declared.operator.Logic.TheVariants as logic
use Rattle.smv_value.specs.declared.operator.Temporal.{Temporal}
use Rattle.smv_value.specs.declared.operator.Temporal.TheVariants as tense
use Rattle.smv_value.specs.declared.operator.Bounded.{Bounded}
use Rattle.smv_value.specs.declared.operator.Bounded.TheVariants as bounded
use Rattle.smv_value.specs.declared.value.Value.{Value}
use Rattle.smv_value.specs.declared.value.Value.TheVariants as value
use Rattle.smv_resolve.specs.declared.item.ItemKind.TheVariants as item
use Rattle.smv_resolve.specs.Items.{ResolvedItem}
use Rattle.smv_layout.specs.Layout.{items_of}
use Rattle.smv_resolve.specs.Resolved.{Resolved, Operands}
use Rattle.smv_slots.specs.Slots.{slots_of}
use Rattle.ltl_meaning.specs.declared.node.UnaryOperator.{UnaryOperator}
use Rattle.ltl_meaning.specs.declared.node.BinaryOperator.{BinaryOperator}
use Rattle.ltl_meaning.specs.Truth.{Moment, FinallyWithin, GloballyWithin, OnceWithin, HistoricallyWithin, unary_truth, binary_truth}
use Rattle.smv_meaning.specs.Formulas.{is_temporal, has_some_temporal}
use Rattle.smv_meaning.specs.Runs.{IsFirstState, IsStep, at_time}
use Rattle.smv_meaning.specs.Outcomes.{one}
use Rattle.smv_meaning.specs.Values.{outcome, outcome_in}

-- states, with the inputs of the step from each, the last of which goes on to the state at `start`
pub record Lasso : Type 0 where
  pub states : List (List Value)
  pub inputs : List (List Value)
  pub start : ℕ

-- an initial state, steps from each state to the next, and a step from the last state back to the one at `start`
pub record IsLasso (p : Program) (w : Lasso) : Type 0 where
  pub long : length w.states ≡ length w.inputs
  pub inside : w.start < length w.states
  pub first : IsFirstState p (at_time w.states 0)
  pub steps : (i : ℕ) → i + 1 < length w.states → IsStep p (at_time w.states i) (at_time w.inputs i) (at_time w.states (i + 1))
  pub back : IsStep p (at_time w.states (length w.states - 1)) (at_time w.inputs (length w.states - 1)) (at_time w.states w.start)

-- each JUSTICE is TRUE in some state of the loop (manual 2.3.9, FAIRNESS Constraints)
abbrev pub MeetsJustice : Program → Lasso → Type 0
MeetsJustice p w =
    (x : ResolvedItem) → Contains (items_of p) x → x.kind ≡ item.Constraint asked.Justice →
    (j : ℕ) × (w.start ≤ j) × (j < length w.states) × (outcome_in (slots_of p) (at_time w.states j) x.value ≡ one (value.Bool true))

-- a lasso in whose loop each JUSTICE is TRUE in some state
pub record IsFairLasso (p : Program) (w : Lasso) : Type 0 where
  pub lasso : IsLasso p w
  pub fair : MeetsJustice p w

-- the place of the state at a time: past the last one times go round the loop
abbrev pub place_at : Lasso → ℕ → ℕ
place_at w t = if nat_lt t (length w.states) then t else w.start + (t - w.start) % (length w.states - w.start)

-- the expression is TRUE at a time, in the state there and with the inputs of the step from it
abbrev pub IsTrueIn : Program → Lasso → Resolved → Moment
IsTrueIn p w r t = outcome (slots_of p) (at_time w.states (place_at w t)) (at_time w.inputs (place_at w t)) [] r ≡ one (value.Bool true)

-- the operators by what holds of their operands

-- an operator between propositions
abbrev pub logic_holds : Logic → Moment → Moment → Moment
logic_holds logic.And = binary_truth BinaryOperator.And
logic_holds logic.Or = binary_truth BinaryOperator.Or
logic_holds logic.Xor = binary_truth BinaryOperator.Xor
logic_holds logic.Xnor = binary_truth BinaryOperator.Xnor
logic_holds logic.Implies = binary_truth BinaryOperator.Implies
logic_holds logic.Iff = binary_truth BinaryOperator.Iff

-- a temporal operator without bounds; one with one operand looks at the first alone
abbrev pub temporal_holds : Temporal → Moment → Moment → Moment
temporal_holds tense.Next P Q = unary_truth UnaryOperator.Next P
temporal_holds tense.Finally P Q = unary_truth UnaryOperator.Finally P
temporal_holds tense.Globally P Q = unary_truth UnaryOperator.Globally P
temporal_holds tense.Previously P Q = unary_truth UnaryOperator.Yesterday P
temporal_holds tense.WeaklyPreviously P Q = unary_truth UnaryOperator.WeakYesterday P
temporal_holds tense.Once P Q = unary_truth UnaryOperator.Once P
temporal_holds tense.Historically P Q = unary_truth UnaryOperator.Historically P
temporal_holds tense.Until P Q = binary_truth BinaryOperator.Until P Q
temporal_holds tense.Releases P Q = binary_truth BinaryOperator.Releases P Q
temporal_holds tense.Since P Q = binary_truth BinaryOperator.Since P Q
temporal_holds tense.Triggered P Q = binary_truth BinaryOperator.Triggered P Q

-- one with bounds, from the lower to the upper
abbrev pub bounded_holds : Bounded → ℕ → ℕ → Moment → Moment
bounded_holds bounded.Finally = FinallyWithin
bounded_holds bounded.Globally = GloballyWithin
bounded_holds bounded.Once = OnceWithin
bounded_holds bounded.Historically = HistoricallyWithin

-- any operator that may stand over formulas; where another one is meant, nothing holds
abbrev pub operator_holds : Operator → Moment → Moment → Moment
operator_holds operator.Not P Q = unary_truth UnaryOperator.Not P
operator_holds (operator.Logic o) P Q = logic_holds o P Q
operator_holds (operator.Temporal o) P Q = temporal_holds o P Q
operator_holds (operator.Bounded o low high) P Q = bounded_holds o low high P
operator_holds other P Q = λ t. ⊥

-- the first where the test is true, else the second
abbrev pub either : Bool → Moment → Moment → Moment
either true P Q = P
either false P Q = Q

-- An expression holds at a time: where a temporal operator stands in it, by its operator over its operands; else where
-- it is TRUE.
abbrev mutual
  pub Holds : Program → Lasso → Resolved → Moment
  Holds p w (Resolved.Constant place b) = IsTrueIn p w (Resolved.Constant place b)
  Holds p w (Resolved.Slot place n) = IsTrueIn p w (Resolved.Slot place n)
  Holds p w (Resolved.Whole place i) = IsTrueIn p w (Resolved.Whole place i)
  Holds p w (Resolved.Named place naming r) = Holds p w r
  Holds p w (Resolved.Next place r) = IsTrueIn p w (Resolved.Next place r)
  Holds p w (Resolved.Apply place o rs) =
      either (is_temporal o || has_some_temporal rs) (operator_holds o (OperandHolds p w rs 0) (OperandHolds p w rs 1)) (IsTrueIn p w (Resolved.Apply place o rs))
  Holds p w Resolved.Stuck = IsTrueIn p w Resolved.Stuck

  pub OperandHolds : Program → Lasso → Operands → ℕ → Moment
  OperandHolds p w Operands.End k = λ t. ⊥
  OperandHolds p w (Operands.With r rs) zero = Holds p w r
  OperandHolds p w (Operands.With r rs) (suc k) = OperandHolds p w rs k

-- a fair lasso at the first time of which the specification does not hold
pub record Violates (p : Program) (spec : ResolvedItem) (w : Lasso) : Type 0 where
  pub lasso : IsFairLasso p w
  pub false : Holds p w spec.value 0 → ⊥
