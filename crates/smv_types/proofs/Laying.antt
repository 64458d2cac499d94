-- Items that are laid out are the items of the program.
use Rattle.std.proofs.Common.{◌≡◌, ◌∙◌, List, map, Option, None, Some, refl, ap}
use Rattle.smv_tree.specs.declared.refusal.Refusal.{Refusal}
use Rattle.smv_tree.specs.declared.tree.Program.{Program}
use Rattle.value_types.specs.declared.value_type.ValueType.{ValueType}
use Rattle.smv_resolve.specs.Items.{ResolvedItem, items_of as resolved_items}
use Rattle.smv_declared.specs.declared.variable_type.VariableType.{VariableType}
use Rattle.smv_declared.specs.Types.{variable_types_of}
use Rattle.smv_slots.specs.declared.slot.Slot.{Slot}
use Rattle.smv_slots.specs.Slots.{slots_of, types_of}
use Rattle.smv_layout.specs.Layout.{items_of, laid_item}
use Rattle.smv_verdicts.specs.Verdicts.{first_of, or_else}
use Rattle.smv_types.specs.Kinds.{item_refusal, misused}

-- the items of the program, laid out
pub laid_items : (p : Program) (vs : List VariableType) (from to : List ResolvedItem) → vs ≡ variable_types_of p → from ≡ resolved_items p → to ≡ map (laid_item vs) from → to ≡ items_of p
unfolding items_of
laid_items p vs from to e f h = h ∙ ap (λ v. map (laid_item v) from) e ∙ ap (map (laid_item (variable_types_of p))) f

-- what they break, over the slots of the program and their types
pub misused_is : (p : Program) (slots : List Slot) (types : List ValueType) (items : List ResolvedItem) → slots ≡ slots_of p → types ≡ types_of p → items ≡ items_of p →
    first_of (item_refusal slots types) items ≡ misused p
misused_is p slots types items e f g =
    ap (λ s. first_of (item_refusal s types) items) e ∙ ap (λ t. first_of (item_refusal (slots_of p) t) items) f ∙ ap (first_of (item_refusal (slots_of p) (types_of p))) g

-- the first of two rules says nothing
pub first_free : (a b : Option Refusal) → or_else a b ≡ None → a ≡ None
first_free None b e = refl
first_free (Some r) b e = e
