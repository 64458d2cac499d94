-- The operators of a program's formulas as those of temporal logic.
use Rattle.std.specs.Prelude.{ℕ}
use Rattle.smv_value.specs.declared.operator.Operator.{Operator}
use Rattle.smv_value.specs.declared.operator.Operator.TheVariants as operator
use Rattle.smv_value.specs.declared.operator.Logic.{Logic}
use Rattle.smv_value.specs.declared.operator.Logic.TheVariants as logic
use Rattle.smv_value.specs.declared.operator.Temporal.{Temporal}
use Rattle.smv_value.specs.declared.operator.Temporal.TheVariants as tense
use Rattle.smv_value.specs.declared.operator.Bounded.{Bounded}
use Rattle.smv_value.specs.declared.operator.Bounded.TheVariants as bounded
use Rattle.ltl_meaning.specs.declared.node.UnaryOperator.{UnaryOperator}
use Rattle.ltl_meaning.specs.declared.node.BinaryOperator.{BinaryOperator}
use Rattle.ltl_meaning.specs.declared.node.BoundedOperator.{BoundedOperator}
use Rattle.ltl_meaning.specs.Truth.{Moment, FinallyWithin, GloballyWithin, OnceWithin, HistoricallyWithin, unary_truth, binary_truth}
use Rattle.smv_formulas.specs.declared.forms.Form.{Form}
use Rattle.smv_formulas.specs.declared.forms.Form.TheVariants as form

abbrev pub connective : Logic → BinaryOperator
connective logic.And = BinaryOperator.And
connective logic.Or = BinaryOperator.Or
connective logic.Xor = BinaryOperator.Xor
connective logic.Xnor = BinaryOperator.Xnor
connective logic.Implies = BinaryOperator.Implies
connective logic.Iff = BinaryOperator.Iff

abbrev pub tense_form : Temporal → Form
tense_form tense.Next = form.One UnaryOperator.Next
tense_form tense.Finally = form.One UnaryOperator.Finally
tense_form tense.Globally = form.One UnaryOperator.Globally
tense_form tense.Previously = form.One UnaryOperator.Yesterday
tense_form tense.WeaklyPreviously = form.One UnaryOperator.WeakYesterday
tense_form tense.Once = form.One UnaryOperator.Once
tense_form tense.Historically = form.One UnaryOperator.Historically
tense_form tense.Until = form.Two BinaryOperator.Until
tense_form tense.Releases = form.Two BinaryOperator.Releases
tense_form tense.Since = form.Two BinaryOperator.Since
tense_form tense.Triggered = form.Two BinaryOperator.Triggered

abbrev pub within : Bounded → BoundedOperator
within bounded.Finally = BoundedOperator.Finally
within bounded.Globally = BoundedOperator.Globally
within bounded.Once = BoundedOperator.Once
within bounded.Historically = BoundedOperator.Historically

abbrev pub form_of : Operator → Form
form_of operator.Not = form.One UnaryOperator.Not
form_of (operator.Logic o) = form.Two (connective o)
form_of (operator.Temporal o) = tense_form o
form_of (operator.Bounded o low high) = form.Within (within o) low high
form_of other = form.Neither

-- an operator with bounds, by what holds of its operand
abbrev pub within_holds : BoundedOperator → ℕ → ℕ → Moment → Moment
within_holds BoundedOperator.Finally = FinallyWithin
within_holds BoundedOperator.Globally = GloballyWithin
within_holds BoundedOperator.Once = OnceWithin
within_holds BoundedOperator.Historically = HistoricallyWithin

-- an operator, by what holds of its operands
abbrev pub form_holds : Form → Moment → Moment → Moment
form_holds (form.One o) P Q = unary_truth o P
form_holds (form.Within o low high) P Q = within_holds o low high P
form_holds (form.Two o) P Q = binary_truth o P Q
form_holds form.Neither P Q = λ t. ⊥
