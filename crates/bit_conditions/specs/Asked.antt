-- What the items of a program say of a state: which specifications are broken there, and which formulas of JUSTICE
-- hold.
use Rattle.std.specs.Prelude.{Bool, true, false, ◌&&◌, List, filter}
use Rattle.smv_tree.specs.declared.tree.Program.{Program}
use Rattle.smv_tree.specs.declared.tree.ConstraintKind.TheVariants as asked
use Rattle.smv_tree.specs.declared.tree.SpecificationKind.TheVariants as claim
use Rattle.smv_value.specs.declared.value.Value.{Value}
use Rattle.smv_resolve.specs.declared.item.ItemKind.{ItemKind}
use Rattle.smv_resolve.specs.declared.item.ItemKind.TheVariants as item
use Rattle.smv_resolve.specs.Items.{ResolvedItem}
use Rattle.smv_layout.specs.Layout.{items_of}
use Rattle.smv_slots.specs.Slots.{slots_of}
use Rattle.smv_meaning.specs.Runs.{is_state, is_true}
use Rattle.smv_meaning.specs.Values.{outcome_in}
use Rattle.bit_outcomes.specs.Asked.{is_false}

-- the item claims an invariant
abbrev pub is_invariant : ItemKind → Bool
is_invariant (item.Specification claim.Invariant) = true
is_invariant other = false

-- a state in which the specification is FALSE
abbrev pub is_broken_in : Program → ResolvedItem → List Value → Bool
is_broken_in p spec s = is_state p s && is_false (outcome_in (slots_of p) s spec.value)

abbrev pub is_justice : ItemKind → Bool
is_justice (item.Constraint asked.Justice) = true
is_justice other = false

-- what is asked to come again and again, in the order of the items
abbrev pub justices_of : Program → List ResolvedItem
justices_of p = filter (λ (x : ResolvedItem). is_justice x.kind) (items_of p)

-- a state in which the formula is TRUE
abbrev pub is_just_in : Program → List Value → ResolvedItem → Bool
is_just_in p s x = is_state p s && is_true (outcome_in (slots_of p) s x.value)
