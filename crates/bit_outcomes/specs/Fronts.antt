-- What is told of the first conditions and branches of a choice.
use Rattle.std.specs.Prelude.{◌≡◌, ◌⊎◌, ℕ, Bool, true, false, List, All}
use Rattle.std.specs.List.{list_any}
use Rattle.bit_graph.specs.declared.edge.GraphNode.{GraphNode}
use Rattle.bit_graph.specs.Meaning.{Stands, edge_value}
use Rattle.smv_value.specs.declared.value.Value.{Value}
use Rattle.smv_meaning.specs.declared.outcome.Evaluation.{Evaluation}
use Rattle.smv_meaning.specs.declared.outcome.Evaluation.TheVariants.{Nothing}
use Rattle.bit_outcomes.specs.declared.fronts.Front.{Front}
use Rattle.bit_outcomes.specs.Telling.{IsThere, MembersStand, TellsSet, is_member}

-- no condition is TRUE or faults: what comes is what the rest gives, if something is told
pub record IsUndecided (v : ℕ → Bool) (x : Front) (f : Evaluation → Evaluation) : Type 0 where
  pub sound : edge_value v x.fault ≡ false
  pub there : All (IsThere v) x.members
  pub none : (w : Value) → list_any (is_member v w) x.members ≡ false
  pub rest : (r : Evaluation) → (f r ≡ r) ⊎ (f r ≡ Nothing)

-- f gives what comes of the conditions and branches where the rest gives r
pub record TellsFront (v : ℕ → Bool) (x : Front) (f : Evaluation → Evaluation) : Type 0 where
  pub undecided : edge_value v x.undecided ≡ true → IsUndecided v x f
  pub decided : edge_value v x.undecided ≡ false → (r : Evaluation) → TellsSet v x.fault x.members (f r)

-- the edges lead to nodes of the graph
abbrev pub FrontStands : List GraphNode → Front → Type 0
FrontStands g x = Stands g x.undecided × Stands g x.fault × MembersStand g x.members
