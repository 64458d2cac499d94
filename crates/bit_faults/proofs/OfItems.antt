-- The fault of an item, and that its outcome is given.
use Rattle.std.proofs.Common.{◌≡◌, ◌∙◌, ℕ, Bool, true, false, ◌&&◌, ◌||◌, zero, suc, List, [], ◌∷◌, refl, sym, ap, if◌then◌else◌}
use Rattle.std.specs.Prelude.{None, Option, Some, option_and_then, slice_get}
use Rattle.std.specs.List.{list_all}
use Rattle.std.specs.Option.{is_some}
use Rattle.std.proofs.lemmas.Bool.{and_parts}
use Rattle.value_types.specs.declared.value_type.ValueType.{ValueType}
use Rattle.value_types.specs.Types.{is_type}
use Rattle.smv_tree.specs.declared.place.Place.{Place}
use Rattle.smv_tree.specs.declared.tree.Program.{Program}
use Rattle.smv_tree.specs.declared.tree.SpecificationKind.TheVariants as claim
use Rattle.smv_value.specs.declared.value.FaultRule.{FaultRule}
use Rattle.smv_value.specs.declared.value.FaultRule.TheVariants as fault
use Rattle.smv_value.specs.declared.value.Value.{Value}
use Rattle.smv_slots.specs.declared.slot.Slot.{Slot}
use Rattle.smv_resolve.specs.declared.item.ItemKind.{ItemKind}
use Rattle.smv_resolve.specs.declared.item.ItemKind.TheVariants as item
use Rattle.smv_resolve.specs.Items.{ResolvedItem}
use Rattle.smv_resolve.specs.declared.node.ExprNode.{ExprNode}
use Rattle.smv_resolve.specs.Resolved.{Resolved, part_of, parts_of}
use Rattle.smv_meaning.specs.declared.outcome.Evaluation.{Evaluation}
use Rattle.smv_meaning.specs.Faults.{fault_of_value, is_outside, item_fault, slot_assigned, speaks_of_paths, type_assigned}
use Rattle.smv_meaning.specs.Formulas.{fault_in, formula_fault, is_known_formula}
use Rattle.smv_meaning.specs.Runs.{are_inputs, is_given, is_known_by, is_known_item, is_single, is_state, item_outcome, outcome_of_target, speaks_of_step}
use Rattle.smv_meaning.specs.Tables.{outcome_at, outcomes_of}
use Rattle.smv_meaning.specs.Values.{outcome, outcome_in}
use Rattle.smv_meaning.proofs.Tables.{outcome_at-map}
use Rattle.bit_states.specs.Coding.{inputs_of, next_of, state_of}
use Rattle.bit_faults.specs.Questions.{are_of_types}
use Rattle.bit_faults.proofs.OfFormulas.{known_given}

-- a value outside, or else its own fault

some_if : {A : Type 0} (b : Bool) (x : A) (o : Option A) → is_some (if b then Some x else o) ≡ (b || is_some o)
some_if true x o = refl
some_if false x o = refl

pub value_fault : (declared : Option ValueType) (begins : Place) (o : Evaluation) → is_some (fault_of_value declared begins o) ≡ (is_outside declared o || is_some (fault_in o))
value_fault declared begins o = some_if {A = FaultRule × Place} (is_outside declared o) (fault.OutOfRange, begins) (fault_in o)

-- the type of what is assigned is a type

pub type_at : (types : List ValueType) (n : ℕ) (t : ValueType) → list_all is_type types ≡ true → slice_get types n ≡ Some t → is_type t ≡ true
type_at [] n t all at = cc
type_at (x ∷ types) zero t all at = ap is_type (let e : t ≡ x = cc in e) ∙ (and_parts (is_type x) (list_all is_type types) all).0
type_at (x ∷ types) (suc n) t all at = type_at types n t (and_parts (is_type x) (list_all is_type types) all).1 at

at_slot : (types : List ValueType) (slot : Option ℕ) (t : ValueType) → list_all is_type types ≡ true → option_and_then (slice_get types) slot ≡ Some t → is_type t ≡ true
at_slot types None t all at = cc
at_slot types (Some n) t all at = type_at types n t all at

pub assigned_type : (types : List ValueType) (target : Option Resolved) (t : ValueType) → list_all is_type types ≡ true → type_assigned types target ≡ Some t → is_type t ≡ true
assigned_type types target t all at = at_slot types (option_and_then slot_assigned target) t all at

module _ (slots : List Slot) (s u t : List Value) where
  -- what is known of an item of each kind

  given_by : (target : Option Resolved) (e : Resolved) (kind : ItemKind) → speaks_of_paths kind ≡ false → is_known_by slots s u t target e kind ≡ true → is_given (item_outcome slots s u t e kind) ≡ true
  given_by target e (item.Assignment which) off known = (and_parts (is_single (outcome_of_target slots s target)) (is_given (item_outcome slots s u t e (item.Assignment which))) known).1
  given_by target e (item.Constraint which) off known = known_given (item_outcome slots s u t e (item.Constraint which)) known
  given_by target e (item.Specification claim.Invariant) off known = known_given (outcome_in slots s e) known
  given_by target e (item.Specification claim.Temporal) off known = cc

  formula_by : (target : Option Resolved) (e : Resolved) (kind : ItemKind) → speaks_of_paths kind ≡ true → is_known_by slots s u t target e kind ≡ true → is_known_formula slots s u e ≡ true
  formula_by target e (item.Assignment which) on known = cc
  formula_by target e (item.Constraint which) on known = cc
  formula_by target e (item.Specification claim.Invariant) on known = cc
  formula_by target e (item.Specification claim.Temporal) on known = known

  pub item_given : (x : ResolvedItem) → speaks_of_paths x.kind ≡ false → is_known_item slots s u t x ≡ true → is_given (item_outcome slots s u t x.value x.kind) ≡ true
  item_given x off known = given_by x.target x.value x.kind off known

  pub formula_known : (x : ResolvedItem) → speaks_of_paths x.kind ≡ true → is_known_item slots s u t x ≡ true → is_known_formula slots s u x.value ≡ true
  formula_known x on known = formula_by x.target x.value x.kind on known

  -- the fault of an item that speaks of paths, and of another

  pub paths_fault : (types : List ValueType) (x : ResolvedItem) → speaks_of_paths x.kind ≡ true → item_fault types slots s u t x ≡ formula_fault slots s u x.value
  paths_fault types x on =
      ap (λ (b : Bool). if b then formula_fault slots s u x.value else fault_of_value (type_assigned types x.target) x.begins (item_outcome slots s u t x.value x.kind)) on

  pub other_fault : (types : List ValueType) (x : ResolvedItem) → speaks_of_paths x.kind ≡ false →
      item_fault types slots s u t x ≡ fault_of_value (type_assigned types x.target) x.begins (item_outcome slots s u t x.value x.kind)
  other_fault types x off =
      ap (λ (b : Bool). if b then formula_fault slots s u x.value else fault_of_value (type_assigned types x.target) x.begins (item_outcome slots s u t x.value x.kind)) off

-- the states and the inputs are of the declared types
pub record OfTypes (p : Program) (v : ℕ → Bool) : Type 0 where
  pub from : is_state p (state_of p v) ≡ true
  pub inputs : are_inputs p (inputs_of p v) ≡ true
  pub to : is_state p (next_of p v) ≡ true

pub of_types : (p : Program) (v : ℕ → Bool) → are_of_types p v ≡ true → OfTypes p v
of_types p v all =
    let two = and_parts (is_state p (state_of p v) && are_inputs p (inputs_of p v)) (is_state p (next_of p v)) all in
    let one = and_parts (is_state p (state_of p v)) (are_inputs p (inputs_of p v)) two.0 in
    record { from = one.0; inputs = one.1; to = two.1 }

-- the outcome of an item's value, by the outcomes of nodes

module _ (slots : List Slot) (s u t : List Value) (nodes : List ExprNode) (k : ℕ) (kind : ItemKind) where
  pub outcome_of_step : speaks_of_step kind ≡ true → outcome_at (outcomes_of slots s u t nodes) k ≡ item_outcome slots s u t (part_of nodes k) kind
  outcome_of_step on =
      outcome_at-map slots s u t (parts_of nodes) k ∙ sym (ap (λ (b : Bool). if b then outcome slots s u t (part_of nodes k) else outcome_in slots s (part_of nodes k)) on)

  pub outcome_of_state : speaks_of_step kind ≡ false → outcome_at (outcomes_of slots s [] [] nodes) k ≡ item_outcome slots s u t (part_of nodes k) kind
  outcome_of_state off =
      outcome_at-map slots s [] [] (parts_of nodes) k ∙ sym (ap (λ (b : Bool). if b then outcome slots s u t (part_of nodes k) else outcome_in slots s (part_of nodes k)) off)
