-- Items fault by the outcomes of nodes just where they do as resolved.
use Rattle.std.proofs.Common.{◌≡◌, ◌∙◌, ℕ, Bool, true, false, not, ◌&&◌, ◌||◌, List, [], ◌∷◌, map, slice_get, Option, None, Some, refl, sym, ap, if◌then◌else◌}
use Rattle.std.specs.Prelude.{option_and_then}
use Rattle.std.specs.List.{list_all}
use Rattle.std.specs.Option.{is_none}
use Rattle.std.proofs.lemmas.Bool.{cond-false, cond-true}
use Rattle.smv_tree.specs.declared.tree.AssignmentKind.TheVariants as side
use Rattle.smv_tree.specs.declared.tree.ConstraintKind.TheVariants as asks
use Rattle.smv_value.specs.declared.value.Value.{Value}
use Rattle.smv_resolve.specs.declared.item.Item.{Item}
use Rattle.smv_resolve.specs.declared.item.ItemKind.{ItemKind}
use Rattle.smv_resolve.specs.declared.item.ItemKind.TheVariants as item
use Rattle.smv_resolve.specs.declared.node.ExprNode.{ExprNode}
use Rattle.smv_resolve.specs.Items.{ResolvedItem, item_by, target_by}
use Rattle.smv_resolve.specs.Resolved.{Resolved, part_of, parts_of}
use Rattle.smv_slots.specs.declared.slot.Slot.{Slot}
use Rattle.value_types.specs.declared.value_type.ValueType.{ValueType}
use Rattle.smv_meaning.specs.declared.outcome.Evaluation.{Evaluation}
use Rattle.smv_meaning.specs.Faults.{fault_of_value, item_fault, slot_assigned, speaks_of_paths, type_assigned}
use Rattle.smv_meaning.specs.Formulas.{formula_fault}
use Rattle.smv_meaning.specs.Runs.{item_outcome, speaks_of_step}
use Rattle.smv_meaning.specs.Tables.{outcome_at, outcomes_of}
use Rattle.smv_meaning.specs.Values.{outcome, outcome_in}
use Rattle.smv_meaning.proofs.FaultTables.{slot_of_part}
use Rattle.smv_meaning.proofs.Tables.{outcome_at-map}
use Rattle.trace_replay.specs.declared.faultless.Asked.{Asked}
use Rattle.trace_replay.specs.declared.faultless.Asked.TheVariants.{First, Always, Step}
use Rattle.trace_replay.specs.Faultless.{is_asking}
use Rattle.trace_replay.specs.Tables.{all_faultless_by, is_faultless_by, type_by}

-- what asks something speaks of no paths

pub asked_of_no_path : (asked : Asked) (k : ItemKind) → is_asking asked k ≡ true → speaks_of_paths k ≡ false
asked_of_no_path asked (item.Assignment kind) h = refl
asked_of_no_path asked (item.Constraint kind) h = refl
asked_of_no_path First (item.Specification kind) h = absurd (let never : ⊥ = cc in never)
asked_of_no_path Always (item.Specification kind) h = absurd (let never : ⊥ = cc in never)
asked_of_no_path Step (item.Specification kind) h = absurd (let never : ⊥ = cc in never)

-- what asks something of a step speaks of it, and what asks something of a state does not

pub asked_of_step : (k : ItemKind) → is_asking Step k ≡ true → speaks_of_step k ≡ true
asked_of_step (item.Assignment side.Next) h = refl
asked_of_step (item.Assignment side.Init) h = absurd (let never : ⊥ = cc in never)
asked_of_step (item.Assignment side.Current) h = absurd (let never : ⊥ = cc in never)
asked_of_step (item.Constraint asks.Trans) h = refl
asked_of_step (item.Constraint asks.Init) h = absurd (let never : ⊥ = cc in never)
asked_of_step (item.Constraint asks.Invar) h = absurd (let never : ⊥ = cc in never)
asked_of_step (item.Constraint asks.Justice) h = absurd (let never : ⊥ = cc in never)
asked_of_step (item.Specification kind) h = absurd (let never : ⊥ = cc in never)

pub asked_of_first : (k : ItemKind) → is_asking First k ≡ true → speaks_of_step k ≡ false
asked_of_first (item.Assignment side.Next) h = absurd (let never : ⊥ = cc in never)
asked_of_first (item.Assignment side.Init) h = refl
asked_of_first (item.Assignment side.Current) h = refl
asked_of_first (item.Constraint asks.Trans) h = absurd (let never : ⊥ = cc in never)
asked_of_first (item.Constraint asks.Init) h = refl
asked_of_first (item.Constraint asks.Invar) h = refl
asked_of_first (item.Constraint asks.Justice) h = refl
asked_of_first (item.Specification kind) h = refl

pub asked_of_each : (k : ItemKind) → is_asking Always k ≡ true → speaks_of_step k ≡ false
asked_of_each (item.Assignment side.Next) h = absurd (let never : ⊥ = cc in never)
asked_of_each (item.Assignment side.Init) h = refl
asked_of_each (item.Assignment side.Current) h = refl
asked_of_each (item.Constraint asks.Trans) h = absurd (let never : ⊥ = cc in never)
asked_of_each (item.Constraint asks.Init) h = refl
asked_of_each (item.Constraint asks.Invar) h = refl
asked_of_each (item.Constraint asks.Justice) h = refl
asked_of_each (item.Specification kind) h = refl

either : (b : Bool) (o : Evaluation) → (if b then o else o) ≡ o
either true o = refl
either false o = refl

guarded : (a b c : Bool) → (a ≡ true → b ≡ c) → (not a || b) ≡ (not a || c)
guarded true b c h = h refl
guarded false b c h = refl

module _ (types : List ValueType) (slots : List Slot) (nodes : List ExprNode) where
  declared_by : (target : Option ℕ) → type_by types (map slot_assigned (parts_of nodes)) target ≡ type_assigned types (target_by nodes target)
  declared_by None = refl
  declared_by (Some k) = ap (option_and_then (slice_get types)) (slot_of_part (parts_of nodes) k)

  module _ (asked : Asked) (s u t : List Value) (told : (e : Resolved) (k : ItemKind) → is_asking asked k ≡ true → item_outcome slots s u t e k ≡ outcome slots s u t e) where
    abbrev here : List Evaluation
    here = outcomes_of slots s u t nodes

    abbrev assigned : List (Option ℕ)
    assigned = map slot_assigned (parts_of nodes)

    one_item : (x : Item) → is_asking asked x.kind ≡ true → is_faultless_by types assigned here x ≡ is_none (item_fault types slots s u t (item_by nodes x))
    one_item x h =
        let e = part_of nodes x.value in
        ap (λ (d : Option ValueType). is_none (fault_of_value d x.begins (outcome_at here x.value))) (declared_by x.target)
        ∙ ap (λ (o : Evaluation). is_none (fault_of_value (type_assigned types (target_by nodes x.target)) x.begins o))
        (outcome_at-map slots s u t (parts_of nodes) x.value ∙ sym (told e x.kind h))
        ∙ ap is_none
        (sym (cond-false (speaks_of_paths x.kind) (formula_fault slots s u e) (fault_of_value (type_assigned types (target_by nodes x.target)) x.begins (item_outcome slots s u t e x.kind)) (asked_of_no_path asked x.kind h)))

    by_items : (items : List Item) → all_faultless_by asked types assigned here items
        ≡ list_all (λ (y : ResolvedItem). not (is_asking asked y.kind) || is_none (item_fault types slots s u t y)) (map (item_by nodes) items)
    by_items [] = refl
    by_items (x ∷ items) =
        ap (λ (b : Bool). b && all_faultless_by asked types assigned here items)
        (guarded (is_asking asked x.kind) (is_faultless_by types assigned here x) (is_none (item_fault types slots s u t (item_by nodes x))) (one_item x))
        ∙ ap (λ (b : Bool). (not (is_asking asked x.kind) || is_none (item_fault types slots s u t (item_by nodes x))) && b) (by_items items)

  -- in a state
  pub in_state : (asked : Asked) (s : List Value) (items : List Item)
      → all_faultless_by asked types (map slot_assigned (parts_of nodes)) (outcomes_of slots s [] [] nodes) items
      ≡ list_all (λ (y : ResolvedItem). not (is_asking asked y.kind) || is_none (item_fault types slots s [] [] y)) (map (item_by nodes) items)
  in_state asked s items = by_items asked s [] [] (λ e k h. either (speaks_of_step k) (outcome slots s [] [] e)) items

  -- in a step
  pub in_step : (s u t : List Value) (items : List Item)
      → all_faultless_by Step types (map slot_assigned (parts_of nodes)) (outcomes_of slots s u t nodes) items
      ≡ list_all (λ (y : ResolvedItem). not (is_asking Step y.kind) || is_none (item_fault types slots s u t y)) (map (item_by nodes) items)
  in_step s u t items = by_items Step s u t (λ e k h. cond-true (speaks_of_step k) (outcome slots s u t e) (outcome_in slots s e) (asked_of_step k h)) items
