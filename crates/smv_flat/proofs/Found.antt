-- The slot that a node is.
use Rattle.std.proofs.Common.{◌≡◌, inl, inr, ℕ, ◌<◌, List, length, slice_get, None, Some, sym, ap, subst, ◌∙◌, arith, if◌then◌else◌, nat_lt}
use Rattle.std.proofs.lemmas.Bool.{cases_lt, lt-ltb, le-ltb}
use Rattle.std.proofs.lemmas.Option.{slice_get_within, slice_get_cases}
use Rattle.smv_tree.specs.declared.place.Place.{Place}
use Rattle.smv_resolve.specs.declared.node.Naming.TheVariants as naming
use Rattle.smv_resolve.specs.declared.node.ExprNode.{ExprNode}
use Rattle.smv_resolve.specs.declared.node.ExprNode.TheVariants as node
use Rattle.smv_resolve.specs.Resolved.{part_at, part_of, resolved_by}
use Rattle.smv_flat.specs.declared.assigned.SlotAnswer.{SlotAnswer}
use Rattle.smv_flat.specs.declared.assigned.SlotAnswer.TheVariants as found
use Rattle.smv_flat.specs.Assignments.{assigned_slot}
use Rattle.smv_flat.specs.Graph.{SlotFound, found_in}
use Rattle.smv_resolve.proofs.Parts.{before, below_stuck, below_is, part_is, part_past}

-- a node says what slot it is
slot_of_node : (slots : ℕ) (nodes : List ExprNode) (k : ℕ) (x : ExprNode) → slice_get nodes k ≡ Some x → assigned_slot slots (part_of nodes k) ≡ assigned_slot slots (resolved_by (before nodes k) x)
slot_of_node slots nodes k x is = ap (assigned_slot slots) (part_is nodes k x is)

slot_found : (slots : ℕ) (nodes : List ExprNode) (k : ℕ) (place : Place) (n : ℕ) → slice_get nodes k ≡ Some (node.Slot place n) → SlotFound slots nodes k (found_in slots k (node.Slot place n))
slot_found slots nodes k place n is =
    let says = slot_of_node slots nodes k (node.Slot place n) is in
    let F : SlotAnswer → Type 0 = λ f. SlotFound slots nodes k f in
    elim (cases_lt n slots) [
      | inl lt ↦ subst F (sym (ap (λ b. if b then found.Slot n else found.Nothing) (lt-ltb n slots lt))) (says ∙ ap (λ b. if b then Some n else None) (lt-ltb n slots lt))
      | inr le ↦ subst F (sym (ap (λ b. if b then found.Slot n else found.Nothing) (le-ltb n slots le))) (says ∙ ap (λ b. if b then Some n else None) (le-ltb n slots le))
    ]

-- one that is what another node below it is
named_found : (slots : ℕ) (nodes : List ExprNode) (k a : ℕ) → k < length nodes → assigned_slot slots (part_of nodes k) ≡ assigned_slot slots (part_at (before nodes k) a) →
    SlotFound slots nodes k (if nat_lt a k then found.Below a else found.Nothing)
named_found slots nodes k a within says =
    let F : SlotAnswer → Type 0 = λ f. SlotFound slots nodes k f in
    elim (cases_lt a k) [
      | inl lt ↦ subst F (sym (ap (λ b. if b then found.Below a else found.Nothing) (lt-ltb a k lt))) (lt, says ∙ ap (assigned_slot slots) (below_is nodes k a lt (omega (arith, within))))
      | inr le ↦ subst F (sym (ap (λ b. if b then found.Below a else found.Nothing) (le-ltb a k le))) (says ∙ ap (assigned_slot slots) (below_stuck nodes k a (omega (arith, within)) le))
    ]

-- what a node says of the slot that it is holds
pub found_so : (slots : ℕ) (nodes : List ExprNode) (k : ℕ) (x : ExprNode) → slice_get nodes k ≡ Some x → SlotFound slots nodes k (found_in slots k x)
found_so slots nodes k (node.Slot place n) is = slot_found slots nodes k place n is
found_so slots nodes k (node.Named place naming.Given a) is =
    named_found slots nodes k a (slice_get_within nodes k (node.Named place naming.Given a) is) (slot_of_node slots nodes k (node.Named place naming.Given a) is)
found_so slots nodes k (node.Named place naming.Element a) is =
    named_found slots nodes k a (slice_get_within nodes k (node.Named place naming.Element a) is) (slot_of_node slots nodes k (node.Named place naming.Element a) is)
found_so slots nodes k (node.Named place (naming.Array name first) a) is =
    named_found slots nodes k a (slice_get_within nodes k (node.Named place (naming.Array name first) a) is) (slot_of_node slots nodes k (node.Named place (naming.Array name first) a) is)
found_so slots nodes k (node.Operand a) is = named_found slots nodes k a (slice_get_within nodes k (node.Operand a) is) (slot_of_node slots nodes k (node.Operand a) is)
found_so slots nodes k (node.Constant place b) is = slot_of_node slots nodes k (node.Constant place b) is
found_so slots nodes k (node.Whole place i) is = slot_of_node slots nodes k (node.Whole place i) is
found_so slots nodes k (node.Named place naming.Defined a) is = slot_of_node slots nodes k (node.Named place naming.Defined a) is
found_so slots nodes k (node.Named place naming.Passed a) is = slot_of_node slots nodes k (node.Named place naming.Passed a) is
found_so slots nodes k (node.Next place a) is = slot_of_node slots nodes k (node.Next place a) is
found_so slots nodes k (node.Apply place o count) is = slot_of_node slots nodes k (node.Apply place o count) is
found_so slots nodes k (node.Link place o a b) is = slot_of_node slots nodes k (node.Link place o a b) is

-- past the nodes there is no slot
pub none_past : (slots : ℕ) (nodes : List ExprNode) (k : ℕ) → slice_get nodes k ≡ None → assigned_slot slots (part_of nodes k) ≡ None
none_past slots nodes k none =
    elim (slice_get_cases nodes k).1 [
      | inl some ↦ let e : Some some.0 ≡ None = sym some.2 ∙ none in cc
      | inr past ↦ ap (assigned_slot slots) (part_past nodes k past.0)
    ]
