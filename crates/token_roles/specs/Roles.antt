-- What a token of each kind is in the grammar (NuSMV 2.6 User Manual, 2.2 to 2.4).
use Rattle.std.specs.Prelude.{Option, None, Some}
use Rattle.smv_tree.specs.declared.token.TokenKind.{TokenKind}
use Rattle.smv_tree.specs.declared.token.TokenKind.TheVariants as kind
use Rattle.smv_tree.specs.declared.tree.VariableKind.{VariableKind}
use Rattle.smv_tree.specs.declared.tree.VariableKind.TheVariants as variable
use Rattle.smv_tree.specs.declared.tree.ConstraintKind.{ConstraintKind}
use Rattle.smv_tree.specs.declared.tree.ConstraintKind.TheVariants as asked
use Rattle.smv_tree.specs.declared.tree.SpecificationKind.{SpecificationKind}
use Rattle.smv_tree.specs.declared.tree.SpecificationKind.TheVariants as claim
use Rattle.smv_value.specs.declared.operator.Operator.{Operator}
use Rattle.smv_value.specs.declared.operator.Operator.TheVariants as operator
use Rattle.smv_value.specs.declared.operator.Logic.TheVariants as logic
use Rattle.smv_value.specs.declared.operator.Order.TheVariants as order
use Rattle.smv_value.specs.declared.operator.Arithmetic.TheVariants as arithmetic
use Rattle.smv_value.specs.declared.operator.Division.TheVariants as division
use Rattle.smv_value.specs.declared.operator.Shift.TheVariants as shift
use Rattle.smv_value.specs.declared.operator.Temporal.{Temporal}
use Rattle.smv_value.specs.declared.operator.Temporal.TheVariants as tense
use Rattle.smv_value.specs.declared.operator.Bounded.{Bounded}
use Rattle.smv_value.specs.declared.operator.Bounded.TheVariants as bounded
use Rattle.smv_expressions.specs.declared.ranks.Rank.{Rank}
use Rattle.smv_expressions.specs.declared.ranks.Rank.TheVariants as rank

-- An operator of a rank; the name of a function, always or only before "("; a temporal operator, without bounds or with
-- some if wanted; or the word that begins a declaration, a constraint or a specification. `Other` is none of these.
pub data Role : Type 0 where
  Between : Rank → Operator → Role
  Reserved : Operator → Role
  Named : Operator → Role
  Step : Temporal → Role
  Timed : Bounded → Role
  Declares : VariableKind → Role
  Constrains : ConstraintKind → Role
  Claims : SpecificationKind → Role
  Other : Role

-- Each kind has a line of its own, and there is no line for those that are left: so a new kind needs one.
abbrev pub role_of : TokenKind → Role
role_of kind.Module = Role.Other
role_of kind.Var = Role.Declares variable.State
role_of kind.Ivar = Role.Declares variable.Input
role_of kind.FrozenVar = Role.Declares variable.Frozen
role_of kind.Define = Role.Other
role_of kind.Constants = Role.Other
role_of kind.Assign = Role.Other
role_of kind.InitSection = Role.Constrains asked.Init
role_of kind.Invar = Role.Constrains asked.Invar
role_of kind.Trans = Role.Constrains asked.Trans
role_of kind.Justice = Role.Constrains asked.Justice
role_of kind.Fairness = Role.Constrains asked.Justice
role_of kind.Invarspec = Role.Claims claim.Invariant
role_of kind.Ltlspec = Role.Claims claim.Temporal
role_of kind.Name = Role.Other
role_of kind.Boolean = Role.Other
role_of kind.Word = Role.Other
role_of kind.Unsigned = Role.Reserved operator.Unsigned
role_of kind.Signed = Role.Reserved operator.Signed
role_of kind.Array = Role.Other
role_of kind.Of = Role.Other
role_of kind.SelfName = Role.Other
role_of kind.Init = Role.Other
role_of kind.Next = Role.Other
role_of kind.True = Role.Other
role_of kind.False = Role.Other
role_of kind.Case = Role.Other
role_of kind.Esac = Role.Other
role_of kind.Mod = Role.Between rank.Product (operator.Division division.Remainder)
role_of kind.Union = Role.Between rank.Union operator.Union
role_of kind.In = Role.Between rank.Membership operator.In
role_of kind.Xor = Role.Between rank.Disjunction (operator.Logic logic.Xor)
role_of kind.Xnor = Role.Between rank.Disjunction (operator.Logic logic.Xnor)
role_of kind.Word1 = Role.Reserved operator.ToWord
role_of kind.Bool = Role.Reserved operator.ToBoolean
role_of kind.Extend = Role.Reserved operator.Extend
role_of kind.Resize = Role.Reserved operator.Resize
role_of kind.Sizeof = Role.Reserved operator.Size
role_of kind.Uwconst = Role.Reserved operator.UnsignedConstant
role_of kind.Swconst = Role.Reserved operator.SignedConstant
role_of kind.NextTime = Role.Step tense.Next
role_of kind.Finally = Role.Timed bounded.Finally
role_of kind.Globally = Role.Timed bounded.Globally
role_of kind.Until = Role.Between rank.Connection (operator.Temporal tense.Until)
role_of kind.Releases = Role.Between rank.Connection (operator.Temporal tense.Releases)
role_of kind.PreviousTime = Role.Step tense.Previously
role_of kind.WeakPreviousTime = Role.Step tense.WeaklyPreviously
role_of kind.Once = Role.Timed bounded.Once
role_of kind.Historically = Role.Timed bounded.Historically
role_of kind.Since = Role.Between rank.Connection (operator.Temporal tense.Since)
role_of kind.Triggered = Role.Between rank.Connection (operator.Temporal tense.Triggered)
role_of kind.Abs = Role.Named operator.Absolute
role_of kind.Max = Role.Named operator.Maximum
role_of kind.Min = Role.Named operator.Minimum
role_of kind.Count = Role.Named operator.Count
role_of kind.Unsupported = Role.Other
role_of kind.Identifier = Role.Other
role_of kind.Integer = Role.Other
role_of kind.WordConstant = Role.Other
role_of kind.LeftParen = Role.Other
role_of kind.RightParen = Role.Other
role_of kind.LeftBracket = Role.Other
role_of kind.RightBracket = Role.Other
role_of kind.LeftBrace = Role.Other
role_of kind.RightBrace = Role.Other
role_of kind.Comma = Role.Other
role_of kind.Semicolon = Role.Other
role_of kind.Colon = Role.Other
role_of kind.Dot = Role.Other
role_of kind.DotDot = Role.Other
role_of kind.Becomes = Role.Other
role_of kind.Concat = Role.Between rank.Concatenation operator.Join
role_of kind.Equal = Role.Between rank.Relation operator.Equal
role_of kind.NotEqual = Role.Between rank.Relation operator.NotEqual
role_of kind.Less = Role.Between rank.Relation (operator.Order order.Less)
role_of kind.Greater = Role.Between rank.Relation (operator.Order order.Greater)
role_of kind.LessEqual = Role.Between rank.Relation (operator.Order order.AtMost)
role_of kind.GreaterEqual = Role.Between rank.Relation (operator.Order order.AtLeast)
role_of kind.Plus = Role.Between rank.Sum (operator.Arithmetic arithmetic.Add)
role_of kind.Minus = Role.Between rank.Sum (operator.Arithmetic arithmetic.Subtract)
role_of kind.Times = Role.Between rank.Product (operator.Arithmetic arithmetic.Multiply)
role_of kind.Divide = Role.Between rank.Product (operator.Division division.Quotient)
role_of kind.And = Role.Between rank.Conjunction (operator.Logic logic.And)
role_of kind.Or = Role.Between rank.Disjunction (operator.Logic logic.Or)
role_of kind.Not = Role.Other
role_of kind.Question = Role.Other
role_of kind.Implies = Role.Other
role_of kind.Iff = Role.Between rank.Equivalence (operator.Logic logic.Iff)
role_of kind.ShiftLeft = Role.Between rank.Shift (operator.Shift shift.Left)
role_of kind.ShiftRight = Role.Between rank.Shift (operator.Shift shift.Right)

-- the operator of a rank that it is; the limits of types have the products and sums of expressions
abbrev pub operator_at : Rank → Role → Option Operator
operator_at rank.Concatenation (Role.Between rank.Concatenation o) = Some o
operator_at rank.Product (Role.Between rank.Product o) = Some o
operator_at rank.Sum (Role.Between rank.Sum o) = Some o
operator_at rank.Shift (Role.Between rank.Shift o) = Some o
operator_at rank.Union (Role.Between rank.Union o) = Some o
operator_at rank.Membership (Role.Between rank.Membership o) = Some o
operator_at rank.Relation (Role.Between rank.Relation o) = Some o
operator_at rank.Connection (Role.Between rank.Connection o) = Some o
operator_at rank.Conjunction (Role.Between rank.Conjunction o) = Some o
operator_at rank.Disjunction (Role.Between rank.Disjunction o) = Some o
operator_at rank.Equivalence (Role.Between rank.Equivalence o) = Some o
operator_at rank.LimitProduct (Role.Between rank.Product o) = Some o
operator_at rank.LimitSum (Role.Between rank.Sum o) = Some o
operator_at r x = None

-- what it is beside operators of a rank, if it is that

abbrev pub reserved_of : Role → Option Operator
reserved_of (Role.Reserved o) = Some o
reserved_of x = None

abbrev pub named_of : Role → Option Operator
named_of (Role.Named o) = Some o
named_of x = None

abbrev pub step_of : Role → Option Temporal
step_of (Role.Step o) = Some o
step_of x = None

abbrev pub timed_of : Role → Option Bounded
timed_of (Role.Timed o) = Some o
timed_of x = None

abbrev pub declaration_of : Role → Option VariableKind
declaration_of (Role.Declares v) = Some v
declaration_of x = None

abbrev pub constraint_of : Role → Option ConstraintKind
constraint_of (Role.Constrains c) = Some c
constraint_of x = None

abbrev pub claim_of : Role → Option SpecificationKind
claim_of (Role.Claims c) = Some c
claim_of x = None
