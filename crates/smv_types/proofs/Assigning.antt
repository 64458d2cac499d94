-- What may be assigned by `next(x) := e` may be by `x := e`.
use Rattle.std.proofs.Common.{◌≡◌, List, Option, None, Some, slice_get, refl}
use Rattle.smv_tree.specs.declared.tree.AssignmentKind.TheVariants as side
use Rattle.smv_tree.specs.declared.tree.VariableKind.{VariableKind}
use Rattle.smv_tree.specs.declared.tree.VariableKind.TheVariants as sort
use Rattle.smv_slots.specs.declared.slot.Slot.{Slot}
use Rattle.smv_resolve.specs.declared.node.Naming.TheVariants as naming
use Rattle.smv_resolve.specs.Resolved.{Resolved}
use Rattle.smv_types.specs.Kinds.{is_assignable, slot_takes, takes_assignment}

kind_same : (kind : VariableKind) → takes_assignment side.Next kind ≡ takes_assignment side.Current kind
kind_same sort.State = refl
kind_same sort.Input = refl
kind_same sort.Frozen = refl

slot_same : (slot : Option Slot) → slot_takes side.Next slot ≡ slot_takes side.Current slot
slot_same None = refl
slot_same (Some slot) = kind_same slot.kind

pub later_same : (slots : List Slot) (r : Resolved) → is_assignable slots side.Next r ≡ is_assignable slots side.Current r
later_same slots (Resolved.Constant place v) = refl
later_same slots (Resolved.Slot place n) = slot_same (slice_get slots n)
later_same slots (Resolved.Whole place i) = refl
later_same slots (Resolved.Named place naming.Given r) = later_same slots r
later_same slots (Resolved.Named place naming.Defined r) = refl
later_same slots (Resolved.Named place naming.Element r) = later_same slots r
later_same slots (Resolved.Named place (naming.Array name first) r) = later_same slots r
later_same slots (Resolved.Named place naming.Passed r) = refl
later_same slots (Resolved.Next place r) = refl
later_same slots (Resolved.Apply place o rs) = refl
later_same slots Resolved.Stuck = refl
