-- What gates tell of the outcomes of expressions: an own choice of this project.
use Rattle.std.specs.Prelude.{◌≡◌, ℕ, Bool, true, false, ◌&&◌, List, [], ◌∷◌, ◌++◌, length, slice_index_or, Option, None, Some, All}
use Rattle.std.specs.List.{list_any}
use Rattle.bit_graph.specs.declared.edge.Edge.{Edge}
use Rattle.bit_graph.specs.declared.edge.GraphNode.{GraphNode}
use Rattle.bit_graph.specs.Meaning.{Stands, edge_value}
use Rattle.smv_value.specs.declared.value.Value.{Value}
use Rattle.smv_value.specs.Results.{same}
use Rattle.value_types.specs.Types.{is_between}
use Rattle.smv_meaning.specs.declared.outcome.Evaluation.{Evaluation}
use Rattle.smv_meaning.specs.declared.outcome.Evaluation.TheVariants.{Fault, Nothing, Values}
use Rattle.bit_operators.specs.declared.symbolic.Symbolic.{Symbolic}
use Rattle.bit_operators.specs.Denoting.{StandsIn, denoted}
use Rattle.bit_outcomes.specs.declared.told.Told.{Told}
use Rattle.bit_outcomes.specs.declared.told.Told.TheVariants as told
use Rattle.bit_outcomes.specs.declared.told.Member.{Member}
use Rattle.bit_outcomes.specs.declared.told.Which.{Which}
use Rattle.bit_outcomes.specs.declared.told.Which.TheVariants as which

-- there is a value, and it is this one
abbrev pub is_this : Value → Option Value → Bool
is_this w None = false
is_this w (Some z) = same w z

-- whether the value is what may be a member, where v has the values of the nodes
abbrev pub is_which : (ℕ → Bool) → Value → Which → Bool
is_which v w (which.Value s) = is_this w (denoted v s)
is_which v w (which.Run low high) = is_between low high w

-- whether the value is this member, which is there
abbrev pub is_member : (ℕ → Bool) → Value → Member → Bool
is_member v w m = edge_value v m.present && is_which v w m.which

-- a value is denoted, or integers are
abbrev pub IsDenoted : (ℕ → Bool) → Which → Type 0
IsDenoted v (which.Value s) = (w : Value) × (denoted v s ≡ Some w)
IsDenoted v (which.Run low high) = Unit {0}

-- if the member is there, it is a value, or integers
abbrev pub IsThere : (ℕ → Bool) → Member → Type 0
IsThere v m = edge_value v m.present ≡ true → IsDenoted v m.which

-- the only value is the one that is denoted
pub record IsOne (v : ℕ → Bool) (s : Symbolic) (vs : List Value) : Type 0 where
  pub value : Value
  pub only : vs ≡ value ∷ []
  pub denotes : denoted v s ≡ Some value

-- the values are those of the members that are there
pub record IsSet (v : ℕ → Bool) (members : List Member) (vs : List Value) : Type 0 where
  pub there : All (IsThere v) members
  pub same : (w : Value) → list_any (same w) vs ≡ list_any (is_member v w) members

-- A fault where the edge is true, and else the value that is denoted. Where kinds do not fit, nothing is told.
abbrev pub TellsOne : (ℕ → Bool) → Edge → Symbolic → Evaluation → Type 0
TellsOne v fault s Nothing = Unit {0}
TellsOne v fault s (Fault rule place) = edge_value v fault ≡ true
TellsOne v fault s (Values vs) = (edge_value v fault ≡ false) × IsOne v s vs

-- a fault where the edge is true, and else the values of the members that are there
abbrev pub TellsSet : (ℕ → Bool) → Edge → List Member → Evaluation → Type 0
TellsSet v fault members Nothing = Unit {0}
TellsSet v fault members (Fault rule place) = edge_value v fault ≡ true
TellsSet v fault members (Values vs) = (edge_value v fault ≡ false) × IsSet v members vs

-- What is told of an outcome is so. Of what is untold nothing is said.
abbrev pub Tells : (ℕ → Bool) → Told → Evaluation → Type 0
Tells v told.Untold o = Unit {0}
Tells v (told.One fault s) o = TellsOne v fault s o
Tells v (told.Set fault members) o = TellsSet v fault members o

-- what is told of each of these outcomes is so
pub record TellsAll (v : ℕ → Bool) (ts : List Told) (os : List Evaluation) : Type 0 where
  pub long : length ts ≡ length os
  pub each : (k : ℕ) → Tells v (slice_index_or ts k told.Untold) (slice_index_or os k Nothing)

-- the values of the one and then of the other, or the first that has none
abbrev pub both : Evaluation → Evaluation → Evaluation
both (Values vs) (Values ws) = Values (vs ++ ws)
both (Values vs) o = o
both x o = x

-- edges lead to nodes of the graph

abbrev pub WhichStands : List GraphNode → Which → Type 0
WhichStands g (which.Value s) = StandsIn g s
WhichStands g (which.Run low high) = Unit {0}

abbrev pub MemberStands : List GraphNode → Member → Type 0
MemberStands g m = Stands g m.present × WhichStands g m.which

abbrev pub MembersStand : List GraphNode → List Member → Type 0
MembersStand g members = All (MemberStands g) members

abbrev pub ToldStands : List GraphNode → Told → Type 0
ToldStands g told.Untold = Unit {0}
ToldStands g (told.One fault s) = Stands g fault × StandsIn g s
ToldStands g (told.Set fault members) = Stands g fault × MembersStand g members

abbrev pub AllTold : List GraphNode → List Told → Type 0
AllTold g ts = All (ToldStands g) ts
