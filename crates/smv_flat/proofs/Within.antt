-- What is assigned is a slot of the program.
use Rattle.std.proofs.Common.{◌≡◌, ℕ, ◌<◌, List, [], length, map, get_or, Option, None, Some, IfSome, sym, subst, arith, All, nat_lt}
use Rattle.std.proofs.lemmas.List.{get_or-map, length-map}
use Rattle.std.proofs.lemmas.Bool.{cond_both, ltb-true}
use Rattle.std.proofs.lemmas.List.Elements.{All-nil, All-cons}
use Rattle.smv_tree.specs.declared.place.Place.{Place}
use Rattle.smv_tree.specs.declared.tree.Program.{Program}
use Rattle.smv_tree.specs.declared.tree.AssignmentKind.{AssignmentKind}
use Rattle.smv_tree.specs.declared.tree.AssignmentKind.TheVariants as side
use Rattle.smv_resolve.specs.declared.node.Naming.TheVariants as naming
use Rattle.smv_resolve.specs.declared.node.ExprNode.{ExprNode}
use Rattle.smv_resolve.specs.declared.item.ItemKind.{ItemKind}
use Rattle.smv_resolve.specs.declared.item.ItemKind.TheVariants as item
use Rattle.smv_resolve.specs.Items.{ResolvedItem}
use Rattle.smv_layout.specs.Layout.{items_of}
use Rattle.smv_resolve.specs.Resolved.{Resolved}
use Rattle.smv_slots.specs.Slots.{slots_of}
use Rattle.smv_flat.specs.Assignments.{SlotAssignment, assigned_slot, assigning, assignment_in, assignment_of, assignments_of, target_slot}
use Rattle.smv_flat.specs.declared.assigned.Assigned.{Assigned}
use Rattle.smv_flat.specs.Graph.{assigned_by}
use Rattle.smv_flat.proofs.Listed.{all_joined}

found_within : (slots : ℕ) (r : Resolved) → IfSome (assigned_slot slots r) (λ n. n < slots)
found_within slots (Resolved.Constant place b) = tt
found_within slots (Resolved.Slot place n) =
    cond_both (nat_lt n slots) (Some n) None (λ o. IfSome o (λ m. m < slots)) (λ t. ltb-true n slots t) (λ f. tt)
found_within slots (Resolved.Whole place i) = tt
found_within slots (Resolved.Named place naming.Given r) = found_within slots r
found_within slots (Resolved.Named place naming.Element r) = found_within slots r
found_within slots (Resolved.Named place (naming.Array name first) r) = found_within slots r
found_within slots (Resolved.Named place naming.Defined r) = tt
found_within slots (Resolved.Named place naming.Passed r) = tt
found_within slots (Resolved.Next place r) = tt
found_within slots (Resolved.Apply place o rs) = tt
found_within slots Resolved.Stuck = tt

target_within : (slots : ℕ) (target : Option Resolved) → IfSome (target_slot slots target) (λ n. n < slots)
target_within slots None = tt
target_within slots (Some r) = found_within slots r

abbrev Within : ℕ → SlotAssignment → Type 0
Within slots a = a.slot < slots

assigning_within : (slots : ℕ) (kind : AssignmentKind) (place : Place) (value : Resolved) (slot : Option ℕ) → IfSome slot (λ n. n < slots) → All (Within slots) (assigning kind place value slot)
assigning_within slots kind place value None h = All-nil (Within slots)
assigning_within slots kind place value (Some n) h = All-cons (Within slots) (record { slot = n; kind = kind; place = place; value = value }) [] h (All-nil (Within slots))

item_within : (slots : ℕ) (kind : ItemKind) (place : Place) (value : Resolved) (slot : Option ℕ) → IfSome slot (λ n. n < slots) → All (Within slots) (assignment_of kind place value slot)
item_within slots (item.Assignment kind) place value slot h = assigning_within slots kind place value slot h
item_within slots (item.Constraint kind) place value slot h = All-nil (Within slots)
item_within slots (item.Specification kind) place value slot h = All-nil (Within slots)

each_within : (slots : ℕ) (x : ResolvedItem) → All (Within slots) (assignment_in slots x)
each_within slots x = item_within slots x.kind x.place x.value (target_slot slots x.target) (target_within slots x.target)

pub all_within : (p : Program) → All (λ (a : SlotAssignment). a.slot < length (slots_of p)) (assignments_of p)
all_within p = let slots = length (slots_of p) in all_joined (Within slots) (assignment_in slots) (items_of p) (λ k d lt. each_within slots (get_or (items_of p) k d))

-- an assignment at a number past the last
abbrev pub nothing : Assigned
nothing = record { slot = 0; kind = side.Init; place = record { line = 0; column = 0 }; value = 0 }

module _ (p : Program) (nodes : List ExprNode) (all : List Assigned) (is : map (assigned_by nodes) all ≡ assignments_of p) (k : ℕ) (lt : k < length all) where
  -- the assignment of this number
  pub stands_there : assigned_by nodes (get_or all k nothing) ≡ get_or (map (assigned_by nodes) all) k (assigned_by nodes (get_or all k nothing))
  stands_there = sym (get_or-map (assigned_by nodes) all k nothing (assigned_by nodes (get_or all k nothing)) lt)

  pub number_within : k < length (map (assigned_by nodes) all)
  number_within = let e = length-map all (assigned_by nodes) in omega (arith, e, lt)

  -- what it assigns is a slot of the program
  pub slot_within : (get_or all k nothing).slot < length (slots_of p)
  slot_within =
      let P : List SlotAssignment → Type 0 = λ as'. All (λ (a : SlotAssignment). a.slot < length (slots_of p)) as' in
      let Q : SlotAssignment → Type 0 = λ a. a.slot < length (slots_of p) in
      subst Q (sym stands_there) (subst P (sym is) (all_within p) k (assigned_by nodes (get_or all k nothing)) number_within)
