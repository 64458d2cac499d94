-- Slots and nodes as one graph: a slot leads to the nodes that it is assigned, a node to those of its parts that it
-- reads, and one that is a slot to that slot. So a slot leads to those that its value depends on, however often a
-- definition is used.
use Rattle.std.specs.Prelude.{◌≡◌, ◌<◌, ℕ, ◌+◌, ◌-◌, ◌==◌, nat_lt, Bool, true, false, not, ◌&&◌, if◌then◌else◌, List, [], ◌∷◌, ◌++◌, length, map, filter, Option, None, Some, slice_get}
use Rattle.std.specs.List.{flat_map, range_with_len}
use Rattle.smv_resolve.specs.declared.node.Naming.TheVariants as naming
use Rattle.smv_resolve.specs.declared.node.ExprNode.{ExprNode}
use Rattle.smv_resolve.specs.declared.node.ExprNode.TheVariants as node
use Rattle.smv_resolve.specs.Resolved.{part_of}
use Rattle.smv_flat.specs.declared.assigned.Assigned.{Assigned}
use Rattle.smv_flat.specs.declared.assigned.SlotAnswer.{SlotAnswer}
use Rattle.smv_flat.specs.declared.assigned.SlotAnswer.TheVariants as found
use Rattle.smv_flat.specs.declared.time.Time.{Time}
use Rattle.smv_flat.specs.Assignments.{SlotAssignment, assigned_slot, looks_ahead, speaks_of}

-- an assignment whose value is a node
abbrev pub assigned_by : List ExprNode → Assigned → SlotAssignment
assigned_by nodes a = record { slot = a.slot; kind = a.kind; place = a.place; value = part_of nodes a.value }

-- what the node of number k says
abbrev pub found_in : ℕ → ℕ → ExprNode → SlotAnswer
found_in slots k (node.Slot place n) = if nat_lt n slots then found.Slot n else found.Nothing
found_in slots k (node.Named place naming.Given a) = if nat_lt a k then found.Below a else found.Nothing
found_in slots k (node.Named place naming.Element a) = if nat_lt a k then found.Below a else found.Nothing
found_in slots k (node.Named place (naming.Array name first) a) = if nat_lt a k then found.Below a else found.Nothing
found_in slots k (node.Operand a) = if nat_lt a k then found.Below a else found.Nothing
found_in slots k other = found.Nothing

-- what is said of a node is so of what it is: the slot that it is, that it is none, or that it is what a node below it
-- is
abbrev pub SlotFound : ℕ → List ExprNode → ℕ → SlotAnswer → Type 0
SlotFound slots nodes k (found.Slot n) = assigned_slot slots (part_of nodes k) ≡ Some n
SlotFound slots nodes k found.Nothing = assigned_slot slots (part_of nodes k) ≡ None
SlotFound slots nodes k (found.Below a) = (a < k) × (assigned_slot slots (part_of nodes k) ≡ assigned_slot slots (part_of nodes a))

-- Where a node stands: behind the slots those that are read in the present state, and behind these those that look
-- ahead.
abbrev pub stand : ℕ → ℕ → Bool → ℕ → ℕ
stand slots nodes false k = slots + k
stand slots nodes true k = (slots + nodes) + k

-- as many of the nodes before number k as these, or all
abbrev pub last_before : ℕ → ℕ → List ℕ
last_before count k = range_with_len (k - count) (k - (k - count))

-- the parts that the node of number k reads, and whether they look ahead
abbrev pub operands : Bool → ℕ → ExprNode → List (Bool × ℕ)
operands ahead k (node.Constant place b) = []
operands ahead k (node.Slot place n) = []
operands ahead k (node.Whole place i) = []
operands ahead k (node.Named place naming a) = (ahead, a) ∷ []
operands ahead k (node.Next place a) = if ahead then (false, a) ∷ [] else []
operands ahead k (node.Operand a) = (ahead, a) ∷ []
operands ahead k (node.Apply place o count) = map (λ j. (ahead, j)) (last_before count k)
operands ahead k (node.Link place o a b) = (ahead, a) ∷ (ahead, b) ∷ []

-- a slot that is read in the present state, if there is such a slot
abbrev pub slot_read : ℕ → Bool → ℕ → List ℕ
slot_read slots ahead n = if not ahead && nat_lt n slots then n ∷ [] else []

-- the slot that a node reads itself
abbrev pub own_slot : ℕ → Bool → ExprNode → List ℕ
own_slot slots ahead (node.Slot place n) = slot_read slots ahead n
own_slot slots ahead other = []

-- where a part stands that lies below this number
abbrev pub part_below : ℕ → ℕ → ℕ → Bool × ℕ → List ℕ
part_below slots nodes limit part = if nat_lt part.1 limit then stand slots nodes part.0 part.1 ∷ [] else []

-- what the node of number k leads to
abbrev pub row : ℕ → ℕ → Bool → ℕ → Option ExprNode → List ℕ
row slots nodes ahead k None = []
row slots nodes ahead k (Some x) = own_slot slots ahead x ++ flat_map (part_below slots nodes k) (operands ahead k x)

abbrev pub rows : ℕ → List ExprNode → Bool → List (List ℕ)
rows slots nodes ahead = map (λ k. row slots (length nodes) ahead k (slice_get nodes k)) (range_with_len 0 (length nodes))

-- what slot x leads to by an assignment
abbrev pub root_of : ℕ → ℕ → Time → ℕ → Assigned → List ℕ
root_of slots nodes time x a =
    if speaks_of time a.kind && a.slot == x then part_below slots nodes nodes (looks_ahead a.kind, a.value) else []

abbrev pub roots : ℕ → ℕ → Time → List Assigned → ℕ → List ℕ
roots slots nodes time all x = flat_map (root_of slots nodes time x) all

abbrev pub slot_rows : ℕ → ℕ → Time → List Assigned → List (List ℕ)
slot_rows slots nodes time all = map (roots slots nodes time all) (range_with_len 0 slots)

-- the graph of slots and nodes at this time
unfoldable pub whole_graph : ℕ → List ExprNode → Time → List Assigned → List (List ℕ)
whole_graph slots nodes time all = (slot_rows slots (length nodes) time all ++ rows slots nodes false) ++ rows slots nodes true

-- those of these that are slots
abbrev pub slots_among : ℕ → List ℕ → List ℕ
slots_among slots vs = filter (λ v. nat_lt v slots) vs
