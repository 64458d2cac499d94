-- The operators and functions of the language (NuSMV 2.6 User Manual, 2.2.3 and 2.4.3), and the levels of precedence
-- whose operators stand between any number of operands. The levels are an own choice of this project.
use Rattle.std.specs.Prelude.{Bool, false, Option, None, Some, is_some, unwrap_or}
use Rattle.phrase_forms.specs.Forms.{Form, token, to}
use Rattle.smv_tree.specs.declared.place.Place.{Place}
use Rattle.smv_tree.specs.declared.token.Token.{Token}
use Rattle.smv_tree.specs.declared.token.TokenKind.{TokenKind}
use Rattle.smv_tree.specs.declared.token.TokenKind.TheVariants as kind
use Rattle.smv_value.specs.declared.operator.Operator.{Operator}
use Rattle.smv_value.specs.declared.operator.Operator.TheVariants as operator
use Rattle.smv_value.specs.declared.operator.Logic.TheVariants as logic
use Rattle.smv_value.specs.declared.operator.Order.TheVariants as order
use Rattle.smv_value.specs.declared.operator.Arithmetic.TheVariants as arithmetic
use Rattle.smv_value.specs.declared.operator.Division.TheVariants as division
use Rattle.smv_value.specs.declared.operator.Shift.TheVariants as shift
use Rattle.smv_value.specs.declared.operator.Temporal.{Temporal}
use Rattle.smv_value.specs.declared.operator.Temporal.TheVariants as tense
use Rattle.smv_value.specs.declared.operator.Bounded.{Bounded}
use Rattle.smv_value.specs.declared.operator.Bounded.TheVariants as bounded
use Rattle.smv_expressions.specs.declared.ranks.Rank.{Rank}
use Rattle.smv_expressions.specs.declared.ranks.Rank.TheVariants as rank

abbrev pub concatenation_operator : TokenKind → Option Operator
concatenation_operator kind.Concat = Some operator.Join
concatenation_operator other = None

abbrev pub product_operator : TokenKind → Option Operator
product_operator kind.Times = Some (operator.Arithmetic arithmetic.Multiply)
product_operator kind.Divide = Some (operator.Division division.Quotient)
product_operator kind.Mod = Some (operator.Division division.Remainder)
product_operator other = None

abbrev pub sum_operator : TokenKind → Option Operator
sum_operator kind.Plus = Some (operator.Arithmetic arithmetic.Add)
sum_operator kind.Minus = Some (operator.Arithmetic arithmetic.Subtract)
sum_operator other = None

abbrev pub shift_operator : TokenKind → Option Operator
shift_operator kind.ShiftLeft = Some (operator.Shift shift.Left)
shift_operator kind.ShiftRight = Some (operator.Shift shift.Right)
shift_operator other = None

abbrev pub union_operator : TokenKind → Option Operator
union_operator kind.Union = Some operator.Union
union_operator other = None

abbrev pub membership_operator : TokenKind → Option Operator
membership_operator kind.In = Some operator.In
membership_operator other = None

abbrev pub relation_operator : TokenKind → Option Operator
relation_operator kind.Equal = Some operator.Equal
relation_operator kind.NotEqual = Some operator.NotEqual
relation_operator kind.Less = Some (operator.Order order.Less)
relation_operator kind.Greater = Some (operator.Order order.Greater)
relation_operator kind.LessEqual = Some (operator.Order order.AtMost)
relation_operator kind.GreaterEqual = Some (operator.Order order.AtLeast)
relation_operator other = None

abbrev pub connection_operator : TokenKind → Option Operator
connection_operator kind.Until = Some (operator.Temporal tense.Until)
connection_operator kind.Releases = Some (operator.Temporal tense.Releases)
connection_operator kind.Since = Some (operator.Temporal tense.Since)
connection_operator kind.Triggered = Some (operator.Temporal tense.Triggered)
connection_operator other = None

abbrev pub conjunction_operator : TokenKind → Option Operator
conjunction_operator kind.And = Some (operator.Logic logic.And)
conjunction_operator other = None

abbrev pub disjunction_operator : TokenKind → Option Operator
disjunction_operator kind.Or = Some (operator.Logic logic.Or)
disjunction_operator kind.Xor = Some (operator.Logic logic.Xor)
disjunction_operator kind.Xnor = Some (operator.Logic logic.Xnor)
disjunction_operator other = None

abbrev pub equivalence_operator : TokenKind → Option Operator
equivalence_operator kind.Iff = Some (operator.Logic logic.Iff)
equivalence_operator other = None

-- the operator of a rank that a token of this kind is; the limits of types have products and sums of their own
abbrev pub operator_of : Rank → TokenKind → Option Operator
operator_of rank.Concatenation = concatenation_operator
operator_of rank.Product = product_operator
operator_of rank.Sum = sum_operator
operator_of rank.Shift = shift_operator
operator_of rank.Union = union_operator
operator_of rank.Membership = membership_operator
operator_of rank.Relation = relation_operator
operator_of rank.Connection = connection_operator
operator_of rank.Conjunction = conjunction_operator
operator_of rank.Disjunction = disjunction_operator
operator_of rank.Equivalence = equivalence_operator
operator_of rank.LimitProduct = product_operator
operator_of rank.LimitSum = sum_operator

abbrev pub is_operator : Rank → Token → Bool
is_operator r t = is_some (operator_of r t.kind)

-- the operator that is found; none is looked for where none is found
abbrev pub found : Option Operator → Operator
found o = unwrap_or o operator.Not

-- an operator of a rank, and its place
abbrev pub operator_form : Rank → Form Token (Place × Operator)
operator_form r = to (λ t. (t.place, found (operator_of r t.kind))) (token false (is_operator r))

-- the functions whose names are reserved words
abbrev pub function_of : TokenKind → Option Operator
function_of kind.Word1 = Some operator.ToWord
function_of kind.Bool = Some operator.ToBoolean
function_of kind.Signed = Some operator.Signed
function_of kind.Unsigned = Some operator.Unsigned
function_of kind.Extend = Some operator.Extend
function_of kind.Resize = Some operator.Resize
function_of kind.Sizeof = Some operator.Size
function_of kind.Uwconst = Some operator.UnsignedConstant
function_of kind.Swconst = Some operator.SignedConstant
function_of other = None

abbrev pub is_function : Token → Bool
is_function t = is_some (function_of t.kind)

-- those whose names are identifiers where no "(" stands behind them
abbrev pub named_function : TokenKind → Option Operator
named_function kind.Abs = Some operator.Absolute
named_function kind.Max = Some operator.Maximum
named_function kind.Min = Some operator.Minimum
named_function kind.Count = Some operator.Count
named_function other = None

abbrev pub names_function : Token → Bool
names_function t = is_some (named_function t.kind)

-- the temporal operators with one operand (manual 2.4.3): those that have no bounds, and those that may have some
abbrev pub step_operator : TokenKind → Option Temporal
step_operator kind.NextTime = Some tense.Next
step_operator kind.PreviousTime = Some tense.Previously
step_operator kind.WeakPreviousTime = Some tense.WeaklyPreviously
step_operator other = None

abbrev pub is_step_operator : Token → Bool
is_step_operator t = is_some (step_operator t.kind)

abbrev pub timed_operator : TokenKind → Option Bounded
timed_operator kind.Finally = Some bounded.Finally
timed_operator kind.Globally = Some bounded.Globally
timed_operator kind.Once = Some bounded.Once
timed_operator kind.Historically = Some bounded.Historically
timed_operator other = None

abbrev pub is_timed_operator : Token → Bool
is_timed_operator t = is_some (timed_operator t.kind)

-- the same without bounds
abbrev pub unbounded : Bounded → Temporal
unbounded bounded.Finally = tense.Finally
unbounded bounded.Globally = tense.Globally
unbounded bounded.Once = tense.Once
unbounded bounded.Historically = tense.Historically
