-- For each item, whether it faults at some valuation of the declared types, as a question of bits.
use Rattle.std.specs.Prelude.{◌≡◌, ℕ, ◌<◌, ◌≤◌, Bool, true, not, ◌&&◌, List, ◌++◌, length, filter, Option, None, Some, All, slice_get, slice_index_or}
use Rattle.std.specs.List.{list_all}
use Rattle.std.specs.Option.{is_some}
use Rattle.bit_graph.specs.declared.edge.Edge.{Edge}
use Rattle.bit_graph.specs.declared.edge.GraphNode.{GraphNode}
use Rattle.bit_graph.specs.Values.{value_under}
use Rattle.clause_core.specs.declared.literal.Lit.{Lit}
use Rattle.clause_core.specs.Assignments.{ClauseTrue}
use Rattle.clause_core.specs.Literals.{Within}
use Rattle.bit_clauses.specs.declared.deciding.Decided.{Decided}
use Rattle.bit_clauses.specs.Deciding.{Decides}
use Rattle.smv_tree.specs.declared.place.Place.{Place}
use Rattle.smv_tree.specs.declared.tree.Program.{Program}
use Rattle.smv_value.specs.declared.value.FaultRule.{FaultRule}
use Rattle.smv_value.specs.declared.value.Value.{Value}
use Rattle.smv_resolve.specs.Items.{ResolvedItem}
use Rattle.smv_layout.specs.Layout.{items_of}
use Rattle.smv_slots.specs.Slots.{slots_of}
use Rattle.smv_slots.specs.Slots.{types_of}
use Rattle.smv_meaning.specs.Faults.{item_fault}
use Rattle.smv_meaning.specs.Runs.{are_inputs, is_claim, is_known_item, is_state, specifications_of}
use Rattle.bit_states.specs.Coding.{inputs_of, next_of, state_of}
use Rattle.bit_states.specs.Layouts.{named_width}
use Rattle.bit_faults.specs.Cones.{AgreeOn}
use Rattle.bit_faults.specs.Mending.{mended}

-- the items that may fault, in the order in which they are judged: assignments and constraints, and then specifications
abbrev pub judged_items : Program → List ResolvedItem
judged_items p = filter (λ (x : ResolvedItem). not (is_claim x.kind)) (items_of p) ++ specifications_of p

-- the bits are those of two states and of inputs
abbrev pub are_of_types : Program → (ℕ → Bool) → Bool
are_of_types p b = is_state p (state_of p b) && are_inputs p (inputs_of p b) && is_state p (next_of p b)

-- the fault of the item at the valuation that the bits are
abbrev pub fault_of_bits : Program → ResolvedItem → (ℕ → Bool) → Option (FaultRule × Place)
fault_of_bits p x b = item_fault (types_of p) (slots_of p) (state_of p b) (inputs_of p b) (next_of p b) x

-- the bits are a valuation, and the item faults there
abbrev pub faults_at : Program → ResolvedItem → (ℕ → Bool) → Bool
faults_at p x b = are_of_types p b && is_some (fault_of_bits p x b)

-- the item faults at no valuation of the declared types
abbrev pub NeverFaults : Program → ResolvedItem → Type 0
NeverFaults p x = (s u t : List Value) → is_state p s ≡ true → are_inputs p u ≡ true → is_state p t ≡ true → item_fault (types_of p) (slots_of p) s u t x ≡ None

-- Clauses over the bits of a step, which are met where they are a valuation at which the item faults. They may leave
-- the types of slots out of account that the fault does not read: where bits meet them, the item faults at the mended
-- bits.
pub record TellsFault (p : Program) (x : ResolvedItem) (c : Decided) : Type 0 where
  pub test : (ℕ → Bool) → Bool
  pub decides : Decides (named_width p) c.clauses test
  pub within : All (Within c.vars) c.clauses
  pub room : named_width p ≤ c.vars
  pub met : (b : ℕ → Bool) → faults_at p x b ≡ true → test b ≡ true
  pub faulty : (b : ℕ → Bool) → test b ≡ true → faults_at p x (mended p b) ≡ true

-- There is no question where the edge that tells a fault is the constant false.
abbrev pub IsFaultQuestion : Program → ResolvedItem → Option Decided → Type 0
IsFaultQuestion p x None = NeverFaults p x
IsFaultQuestion p x (Some c) = TellsFault p x c

-- one for each of these items
pub record AreQuestions (p : Program) (xs : List ResolvedItem) (qs : List (Option Decided)) : Type 0 where
  pub long : length qs ≡ length xs
  pub each : (j : ℕ) (x : ResolvedItem) (q : Option Decided) → slice_get xs j ≡ Some x → slice_get qs j ≡ Some q → IsFaultQuestion p x q

-- one for each item that is judged
abbrev pub AreFaultQuestions : Program → List (Option Decided) → Type 0
AreFaultQuestions p qs = AreQuestions p (judged_items p) qs

-- Of a graph with n inputs, the clauses ask for the edge, and for the domains of the inputs that it reads.
pub record IsAsked (n : ℕ) (g : List GraphNode) (domains : List Edge) (e : Edge) (c : Decided) : Type 0 where
  pub read : List ℕ
  pub within_inputs : All (λ k. k < n) read
  pub reads : (a b : ℕ → Bool) → AgreeOn read a b → value_under a g e ≡ value_under b g e
  pub decides : Decides n c.clauses (λ y. list_all (λ k. value_under y g (slice_index_or domains k e)) read && value_under y g e)
  pub within : All (Within c.vars) c.clauses
  pub room : n ≤ c.vars

-- no assignment meets the clauses
abbrev pub CanNeverBeMet : List (List Lit) → Type 0
CanNeverBeMet cs = (a : ℕ → Bool) → All (ClauseTrue a) cs → ⊥

-- the outcome of the item is known at each valuation of the declared types
abbrev pub IsKnown : Program → ResolvedItem → Type 0
IsKnown p x = (s u t : List Value) → is_state p s ≡ true → are_inputs p u ≡ true → is_state p t ≡ true → is_known_item (slots_of p) s u t x ≡ true
