-- Which value edges stand for under a valuation of the nodes: an own choice of this project.
use Rattle.std.specs.Prelude.{◌≡◌, ℕ, Bool, true, false, if◌then◌else◌, List, [], ◌∷◌, length, slice_get, Option, None, Some, ℤ}
use Rattle.std.specs.Option.{option_map}
use Rattle.smv_value.specs.declared.value.Value.{Value}
use Rattle.smv_value.specs.declared.value.Value.TheVariants as value
use Rattle.smv_value.specs.Results.{is_value}
use Rattle.bit_graph.specs.declared.edge.Edge.{Edge}
use Rattle.bit_graph.specs.declared.edge.GraphNode.{GraphNode}
use Rattle.bit_graph.specs.Meaning.{Stands, edge_value}
use Rattle.bit_arith.specs.Number.{AllStand, number_of}
use Rattle.bit_arith.specs.Words.{integer}
use Rattle.bit_operators.specs.declared.symbolic.Symbolic.{Symbolic}
use Rattle.bit_operators.specs.declared.symbolic.Symbolic.TheVariants as symbolic
use Rattle.bit_operators.specs.declared.symbolic.Discrete.{Discrete}

-- the integer of edges in two's complement, where v has the values of the nodes
abbrev pub integer_of : (ℕ → Bool) → List Edge → ℤ
integer_of v es = integer (length es) (number_of v es)

-- the integer, or the symbol at the position that the code is; none past the end
abbrev pub discrete_value : (ℕ → Bool) → Discrete → Option Value
discrete_value v d = if edge_value v d.is_symbol then option_map value.Sym (slice_get d.symbols (number_of v d.code)) else Some (value.Int (integer_of v d.number))

-- the value that it stands for, where v has the values of the nodes
abbrev pub denoted : (ℕ → Bool) → Symbolic → Option Value
denoted v (symbolic.Boolean e) = Some (value.Bool (edge_value v e))
denoted v (symbolic.Word signed bits) = Some (value.Word signed (length bits) (number_of v bits))
denoted v (symbolic.Discrete d) = discrete_value v d

pub record DiscreteStands (g : List GraphNode) (d : Discrete) : Type 0 where
  pub is_symbol : Stands g d.is_symbol
  pub number : AllStand g d.number
  pub code : AllStand g d.code

-- its edges lead to nodes of the graph
abbrev pub StandsIn : List GraphNode → Symbolic → Type 0
StandsIn g (symbolic.Boolean e) = Stands g e
StandsIn g (symbolic.Word signed bits) = AllStand g bits
StandsIn g (symbolic.Discrete d) = DiscreteStands g d

-- where the operand stands for a value of which f gives one, the result stands for what f gives
pub record ComputesOne (v : ℕ → Bool) (f : Value → Option Value) (a r : Symbolic) : Type 0 where
  pub gives : (x z : Value) → denoted v a ≡ Some x → is_value x ≡ true → f x ≡ Some z → denoted v r ≡ Some z

-- the same for two operands
pub record ComputesTwo (v : ℕ → Bool) (f : Value → Value → Option Value) (a b r : Symbolic) : Type 0 where
  pub gives : (x y z : Value) → denoted v a ≡ Some x → denoted v b ≡ Some y → is_value x ≡ true → is_value y ≡ true → f x y ≡ Some z → denoted v r ≡ Some z

-- the same where the test of the operands' values may be a fault, which the last edge tells
pub record ComputesUnless (v : ℕ → Bool) (test : Value → Value → Bool) (f : Value → Value → Option Value) (a b r : Symbolic) (fault : Edge) : Type 0 where
  pub faults : (x y : Value) → denoted v a ≡ Some x → denoted v b ≡ Some y → is_value x ≡ true → is_value y ≡ true → edge_value v fault ≡ test x y
  pub gives : (x y z : Value) → denoted v a ≡ Some x → denoted v b ≡ Some y → is_value x ≡ true → is_value y ≡ true → test x y ≡ false → f x y ≡ Some z → denoted v r ≡ Some z
