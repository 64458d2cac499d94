-- What values are of a kind, and what it means that an operator gives values of a kind.
use Rattle.std.specs.Prelude.{◌≡◌, Bool, true, false, ◌&&◌, ⊤, IsTrue, List, [], ◌∷◌, Option, None, Some, Result, Ok, Err, ℤ, int_le}
use Rattle.smv_value.specs.declared.operator.Operator.{Operator}
use Rattle.smv_value.specs.declared.operator.Operator.TheVariants as operator
use Rattle.smv_value.specs.declared.value.Value.{Value}
use Rattle.smv_value.specs.declared.value.Value.TheVariants as value
use Rattle.smv_value.specs.declared.value.FaultRule.{FaultRule}
use Rattle.smv_value.specs.Results.{alike, is_value}
use Rattle.smv_kinds.specs.declared.kind.Interval.{Interval}
use Rattle.smv_kinds.specs.declared.kind.Discrete.{Discrete}
use Rattle.smv_kinds.specs.declared.kind.Kind.{Kind}
use Rattle.smv_kinds.specs.declared.kind.Kind.TheVariants as kind
use Rattle.smv_kinds.specs.declared.kind.Operand.{Operand}

abbrev pub is_in : Interval → ℤ → Bool
is_in i z = int_le i.low z && int_le z i.high

abbrev pub is_in_some : Option Interval → ℤ → Bool
is_in_some None z = false
is_in_some (Some i) z = is_in i z

abbrev pub is_element : Discrete → Value → Bool
is_element d (value.Int z) = is_in_some d.integers z
is_element d (value.Sym n) = d.symbols
is_element d other = false

-- of this kind by its type and its size; of a set's kind, if it may be a member
abbrev pub is_among : Kind → Value → Bool
is_among kind.Boolean (value.Bool b) = true
is_among kind.BooleanSet (value.Bool b) = true
is_among (kind.Word s w) (value.Word t v bits) = alike s w t v
is_among (kind.Discrete d) v = is_element d v
is_among (kind.DiscreteSet d) v = is_element d v
is_among k v = false

-- a value of this kind, or of a set of this kind a member
abbrev pub is_of_kind : Kind → Value → Bool
is_of_kind k v = is_value v && is_among k v

-- a value of what an operand is told as
pub record IsOperand (x : Operand) (v : Value) : Type 0 where
  pub kind : IsTrue (is_of_kind x.kind v)
  pub constant : (z : ℤ) → x.constant ≡ Some z → v ≡ value.Int z

abbrev pub AreOperands : List Operand → List Value → Type 0
AreOperands [] [] = ⊤
AreOperands (x ∷ xs) (v ∷ vs) = IsOperand x v × AreOperands xs vs
AreOperands xs vs = ⊥

-- one value of this kind, or a fault
abbrev pub Gives : Kind → Result (Option Value) FaultRule → Type 0
Gives k (Err f) = ⊤
Gives k (Ok None) = ⊥
Gives k (Ok (Some v)) = IsTrue (is_of_kind k v)

-- the operators that give one value of one value each
abbrev pub gives_value : Operator → Bool
gives_value operator.Index = false
gives_value operator.WholeArray = false
gives_value operator.Members = false
gives_value operator.Union = false
gives_value operator.Range = false
gives_value operator.In = false
gives_value (operator.Choice f) = false
gives_value (operator.Temporal o) = false
gives_value (operator.Bounded o low high) = false
gives_value (operator.Window o) = false
gives_value other = true

-- each value of each operand's kind is of this kind
abbrev pub HasAll : Kind → List Operand → Type 0
HasAll k [] = ⊤
HasAll k (x ∷ xs) = ((v : Value) → IsTrue (is_of_kind x.kind v) → IsTrue (is_of_kind k v)) × HasAll k xs

-- the branches among conditions and branches by turns
abbrev pub branches : List Operand → List Operand
branches [] = []
branches (x ∷ []) = x ∷ []
branches (c ∷ x ∷ xs) = x ∷ branches xs

-- a boolean for a boolean, a word of this type for a word, an integer or a symbol for what is discrete
abbrev pub is_like : Kind → Value → Bool
is_like kind.Boolean (value.Bool b) = true
is_like (kind.Word s w) (value.Word t v bits) = alike s w t v
is_like (kind.Discrete d) (value.Int z) = true
is_like (kind.Discrete d) (value.Sym n) = true
is_like k v = false
