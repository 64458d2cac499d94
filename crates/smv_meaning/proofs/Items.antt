-- What items over nodes ask is what the resolved items ask.
use Rattle.std.proofs.Common.{◌≡◌, ◌∙◌, ℕ, Bool, true, false, cond, ◌&&◌, List, [], ◌∷◌, map, Option, None, Some, refl, ap}
use Rattle.std.specs.List.{filter, list_all}
use Rattle.smv_value.specs.declared.value.Value.{Value}
use Rattle.smv_resolve.specs.declared.item.Item.{Item}
use Rattle.smv_resolve.specs.declared.item.ItemKind.{ItemKind}
use Rattle.smv_resolve.specs.declared.node.ExprNode.{ExprNode}
use Rattle.smv_slots.specs.declared.slot.Slot.{Slot}
use Rattle.smv_resolve.specs.Items.{ResolvedItem, item_by, target_by}
use Rattle.smv_resolve.specs.Resolved.{parts_of, part_of}
use Rattle.smv_meaning.specs.declared.outcome.Evaluation.{Evaluation}
use Rattle.smv_meaning.specs.Runs.{allows_first, allows_always, allows_step, asks_first, asks_always, asks_step, is_claim, outcome_of_target}
use Rattle.smv_meaning.specs.Tables.{always_allowed, first_allowed, outcome_at, outcomes_of, step_allowed, target_at}
use Rattle.smv_meaning.specs.Values.{outcome}
use Rattle.smv_meaning.proofs.Tables.{outcome_at-map}

module _ (slots : List Slot) (nodes : List ExprNode) where
  target_at-map : (t : List Value) (target : Option ℕ) → target_at (outcomes_of slots t [] [] nodes) target ≡ outcome_of_target slots t (target_by nodes target)
  target_at-map t None = refl
  target_at-map t (Some k) = outcome_at-map slots t [] [] (parts_of nodes) k

  module _ (ask : Evaluation → Evaluation → ItemKind → Bool) (s u t w : List Value) where
    asked : (x : Item) → ask (target_at (outcomes_of slots w [] [] nodes) x.target) (outcome_at (outcomes_of slots s u t nodes) x.value) x.kind
        ≡ ask (outcome_of_target slots w (target_by nodes x.target)) (outcome slots s u t (part_of nodes x.value)) x.kind
    asked x =
        ap (λ (o : Evaluation). ask o (outcome_at (outcomes_of slots s u t nodes) x.value) x.kind) (target_at-map w x.target)
        ∙ ap (λ (o : Evaluation). ask (outcome_of_target slots w (target_by nodes x.target)) o x.kind) (outcome_at-map slots s u t (parts_of nodes) x.value)

    -- what is asked by the outcomes of nodes is asked by those of what the nodes are
    all_asked : (items : List Item)
        → list_all (λ (x : Item). ask (target_at (outcomes_of slots w [] [] nodes) x.target) (outcome_at (outcomes_of slots s u t nodes) x.value) x.kind) items
        ≡ list_all (λ (y : ResolvedItem). ask (outcome_of_target slots w y.target) (outcome slots s u t y.value) y.kind) (map (item_by nodes) items)
    all_asked [] = refl
    all_asked (x ∷ items) =
        ap (λ (b : Bool). b && list_all (λ (x : Item). ask (target_at (outcomes_of slots w [] [] nodes) x.target) (outcome_at (outcomes_of slots s u t nodes) x.value) x.kind) items) (asked x)
        ∙ ap (λ (b : Bool). ask (outcome_of_target slots w (target_by nodes x.target)) (outcome slots s u t (part_of nodes x.value)) x.kind && b) (all_asked items)

  -- initial states, both states of a step, and steps
  pub first_asked : (s : List Value) (items : List Item) → first_allowed (outcomes_of slots s [] [] nodes) items ≡ list_all (allows_first slots s) (map (item_by nodes) items)
  first_asked s items = all_asked asks_first s [] [] s items

  pub always_asked : (s : List Value) (items : List Item) → always_allowed (outcomes_of slots s [] [] nodes) items ≡ list_all (allows_always slots s) (map (item_by nodes) items)
  always_asked s items = all_asked asks_always s [] [] s items

  pub step_asked : (s u t : List Value) (items : List Item)
      → step_allowed (outcomes_of slots s u t nodes) (outcomes_of slots t [] [] nodes) items ≡ list_all (allows_step slots s u t) (map (item_by nodes) items)
  step_asked s u t items = all_asked asks_step s u t t items

picked : (nodes : List ExprNode) (x : Item) (items : List Item) (there : List ResolvedItem) → map (item_by nodes) items ≡ there
    → (b : Bool) → map (item_by nodes) (cond b (x ∷ items) items) ≡ cond b (item_by nodes x ∷ there) there
picked nodes x items there same true = ap (λ (l : List ResolvedItem). item_by nodes x ∷ l) same
picked nodes x items there same false = same

-- the items that are specifications are so as resolved items
pub claims : (nodes : List ExprNode) (items : List Item)
    → map (item_by nodes) (filter (λ (x : Item). is_claim x.kind) items) ≡ filter (λ (x : ResolvedItem). is_claim x.kind) (map (item_by nodes) items)
claims nodes [] = refl
claims nodes (x ∷ items) =
    picked nodes x (filter (λ (x : Item). is_claim x.kind) items) (filter (λ (x : ResolvedItem). is_claim x.kind) (map (item_by nodes) items)) (claims nodes items) (is_claim x.kind)
