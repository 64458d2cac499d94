-- The rules of assignments: each variable is assigned once at a time, and none depends on itself at one time
-- (NuSMV 2.6 User Manual, 2.3.8, ASSIGN Constraint; the order of the rules is an own choice of this project).
use Rattle.std.specs.Prelude.{◌≡◌, ℕ, ◌==◌, nat_lt, Bool, true, false, not, ◌&&◌, ◌||◌, if◌then◌else◌, List, [], ◌∷◌, ◌++◌, length, map, filter, Option, None, Some, slice_get, codes}
use Rattle.std.specs.List.{flat_map, list_any, range_with_len}
use Rattle.digraph.specs.Cycles.{Acyclic, IsCanonicalCycle}
use Rattle.smv_tree.specs.declared.place.Place.{Place}
use Rattle.smv_tree.specs.declared.refusal.Refusal.{Refusal}
use Rattle.smv_tree.specs.declared.refusal.Rule.TheVariants as rule
use Rattle.smv_tree.specs.declared.refusal.TextStop.{TextStop}
use Rattle.smv_tree.specs.declared.refusal.TextStop.TheVariants.{Refused, NoMemory}
use Rattle.smv_tree.specs.declared.tree.Program.{Program}
use Rattle.smv_tree.specs.declared.tree.AssignmentKind.{AssignmentKind}
use Rattle.smv_tree.specs.declared.tree.AssignmentKind.TheVariants as side
use Rattle.smv_tree.specs.Places.{start}
use Rattle.smv_resolve.specs.declared.item.ItemKind.{ItemKind}
use Rattle.smv_resolve.specs.declared.item.ItemKind.TheVariants as item
use Rattle.smv_slots.specs.declared.slot.Slot.{Slot}
use Rattle.smv_resolve.specs.Items.{ResolvedItem}
use Rattle.smv_layout.specs.Layout.{items_of}
use Rattle.smv_slots.specs.Names.{slot_name}
use Rattle.smv_resolve.specs.declared.node.Naming.TheVariants as naming
use Rattle.smv_resolve.specs.Resolved.{Operands, Resolved}
use Rattle.smv_slots.specs.Slots.{slots_of}
use Rattle.smv_flat.specs.declared.time.Time.{Time}
use Rattle.smv_flat.specs.declared.time.Time.TheVariants as when

-- An assignment to a slot, and the value that is assigned.
pub record SlotAssignment : Type 0 where
  pub slot : ℕ
  pub kind : AssignmentKind
  pub place : Place
  pub value : Resolved

-- the slot that an expression is: itself, as what a parameter was given, or as an element of an array; there are so
-- many slots
abbrev pub assigned_slot : ℕ → Resolved → Option ℕ
assigned_slot slots (Resolved.Constant place b) = None
assigned_slot slots (Resolved.Slot place n) = if nat_lt n slots then Some n else None
assigned_slot slots (Resolved.Whole place i) = None
assigned_slot slots (Resolved.Named place naming.Given r) = assigned_slot slots r
assigned_slot slots (Resolved.Named place naming.Element r) = assigned_slot slots r
assigned_slot slots (Resolved.Named place (naming.Array name first) r) = assigned_slot slots r
assigned_slot slots (Resolved.Named place naming.Defined r) = None
assigned_slot slots (Resolved.Named place naming.Passed r) = None
assigned_slot slots (Resolved.Next place r) = None
assigned_slot slots (Resolved.Apply place o rs) = None
assigned_slot slots Resolved.Stuck = None

abbrev pub target_slot : ℕ → Option Resolved → Option ℕ
target_slot slots None = None
target_slot slots (Some r) = assigned_slot slots r

-- an assignment of the slot, if there is one
abbrev pub assigning : AssignmentKind → Place → Resolved → Option ℕ → List SlotAssignment
assigning kind place value None = []
assigning kind place value (Some n) = record { slot = n; kind = kind; place = place; value = value } ∷ []

-- the assignment that an item of this kind is
abbrev pub assignment_of : ItemKind → Place → Resolved → Option ℕ → List SlotAssignment
assignment_of (item.Assignment kind) place value slot = assigning kind place value slot
assignment_of (item.Constraint kind) place value slot = []
assignment_of (item.Specification kind) place value slot = []

abbrev pub assignment_in : ℕ → ResolvedItem → List SlotAssignment
assignment_in slots x = assignment_of x.kind x.place x.value (target_slot slots x.target)

-- the assignments to slots of a program, in the order of its items
abbrev pub assignments_of : Program → List SlotAssignment
assignments_of p = flat_map (assignment_in (length (slots_of p))) (items_of p)

-- two assignments of one slot meet where they speak of the same time
abbrev pub kinds_meet : AssignmentKind → AssignmentKind → Bool
kinds_meet side.Init side.Init = true
kinds_meet side.Init side.Next = false
kinds_meet side.Init side.Current = true
kinds_meet side.Next side.Init = false
kinds_meet side.Next side.Next = true
kinds_meet side.Next side.Current = true
kinds_meet side.Current other = true

-- both assign one slot, at the same time
abbrev pub assignments_meet : SlotAssignment → SlotAssignment → Bool
assignments_meet a b = a.slot == b.slot && kinds_meet a.kind b.kind

abbrev pub name_in : Program → Option Slot → List ℕ
name_in p None = []
name_in p (Some slot) = slot_name p slot

-- the name of the slot of this number, as it is printed
abbrev pub name_of_slot : Program → ℕ → List ℕ
name_of_slot p n = name_in p (slice_get (slots_of p) n)

-- the refusal of an assignment to a slot that is assigned before
abbrev pub twice_refusal : Program → SlotAssignment → Refusal
twice_refusal p a = record { rule = rule.AssignedTwice; place = a.place; detail = Some (name_of_slot p a.slot) }

-- the refusal of the first assignment that meets one before it, where those before are given
abbrev pub twice : Program → List SlotAssignment → List SlotAssignment → Option Refusal
twice p before [] = None
twice p before (a ∷ as') =
    if list_any (λ (b : SlotAssignment). assignments_meet b a) before
    then Some (twice_refusal p a)
    else twice p (before ++ a ∷ []) as'

-- the refusal of the first of the program's assignments that meets one before it
abbrev pub assigned_twice : Program → Option Refusal
assigned_twice p = twice p [] (assignments_of p)

-- Whether an expression reads a slot in the present state, or where it looks ahead, in the next one. What stands under
-- `next` is read in the next state; all branches are read, and what names stand for.
abbrev mutual
  pub occurs : Bool → ℕ → Resolved → Bool
  occurs ahead y (Resolved.Constant place b) = false
  occurs ahead y (Resolved.Slot place n) = not ahead && n == y
  occurs ahead y (Resolved.Whole place i) = false
  occurs ahead y (Resolved.Named place naming r) = occurs ahead y r
  occurs ahead y (Resolved.Next place r) = ahead && occurs false y r
  occurs ahead y (Resolved.Apply place o rs) = occurs_in_some ahead y rs
  occurs ahead y Resolved.Stuck = false

  pub occurs_in_some : Bool → ℕ → Operands → Bool
  occurs_in_some ahead y Operands.End = false
  occurs_in_some ahead y (Operands.With r rs) = occurs ahead y r || occurs_in_some ahead y rs

-- whether an assignment gives a value of this time: of initial states, or of next ones
abbrev pub speaks_of : Time → AssignmentKind → Bool
speaks_of when.First side.Init = true
speaks_of when.First side.Next = false
speaks_of when.First side.Current = true
speaks_of when.Next side.Init = false
speaks_of when.Next side.Next = true
speaks_of when.Next side.Current = true

-- whether the right side gives a value of the next state, so that it reads values of that state under `next` alone
abbrev pub looks_ahead : AssignmentKind → Bool
looks_ahead side.Init = false
looks_ahead side.Next = true
looks_ahead side.Current = false

-- the assignment gives slot x a value of this time
abbrev pub gives : Time → ℕ → SlotAssignment → Bool
gives time x a = speaks_of time a.kind && a.slot == x

-- the assignment gives slot x a value of this time, which depends on that of slot y
abbrev pub ties : Time → ℕ → ℕ → SlotAssignment → Bool
ties time x y a = gives time x a && occurs (looks_ahead a.kind) y a.value

-- by one of these assignments, the value of slot x at this time depends on that of slot y
abbrev pub depends : Time → List SlotAssignment → ℕ → ℕ → Bool
depends time as' x y = list_any (ties time x y) as'

-- the numbers of the slots
abbrev pub slot_numbers : Program → List ℕ
slot_numbers p = range_with_len 0 (length (slots_of p))

-- the slots that the value of slot x at this time depends on
abbrev pub depends_on : Program → Time → ℕ → List ℕ
depends_on p time x = filter (depends time (assignments_of p) x) (slot_numbers p)

-- the graph of dependencies between slots at this time
abbrev pub dependencies : Program → Time → List (List ℕ)
dependencies p time = map (depends_on p time) (slot_numbers p)

-- the place of the first assignment that gives slot x a value of this time
abbrev pub place_of_assignment : Time → ℕ → List SlotAssignment → Place
place_of_assignment time x [] = start
place_of_assignment time x (a ∷ as') = if gives time x a then a.place else place_of_assignment time x as'

-- names, each with a comma behind it
abbrev pub listed_names : Program → List ℕ → List ℕ
listed_names p ns = flat_map (λ n. name_of_slot p n ++ codes ", ") ns

-- a cycle as it is printed: it ends with its first slot again
abbrev pub path_text : Program → List ℕ → List ℕ
path_text p [] = []
path_text p (n ∷ ns) = listed_names p (n ∷ ns) ++ name_of_slot p n

-- the slot with which a cycle begins
abbrev pub first_slot : List ℕ → ℕ
first_slot [] = 0
first_slot (n ∷ ns) = n

-- the refusal of a cycle of this time
abbrev pub cycle_refusal : Program → Time → List ℕ → Refusal
cycle_refusal p time round =
    record { rule = rule.AssignCycle; place = place_of_assignment time (first_slot round) (assignments_of p); detail = Some (path_text p round) }

-- the refusal tells a cycle of this time, which passes each slot once and begins with the first of them
abbrev pub TellsCycle : Program → Time → Refusal → Type 0
TellsCycle p time r = (round : List ℕ) × IsCanonicalCycle (dependencies p time) round × (r ≡ cycle_refusal p time round)

-- no slot is assigned twice, or depends on itself
pub record AreAssignable (p : Program) : Type 0 where
  pub once : assigned_twice p ≡ None
  pub first_times : Acyclic (dependencies p when.First)
  pub next_times : Acyclic (dependencies p when.Next)

-- How a program is refused by its assignments: the first that meets one before it; or where none does, a cycle among
-- the values of initial states; or where there is none either, one among those of next states.
pub data IsRefusedByAssignments (p : Program) (r : Refusal) : Type 0 where
  twice_assigned : assigned_twice p ≡ Some r → IsRefusedByAssignments p r
  first_cycle : assigned_twice p ≡ None → TellsCycle p when.First r → IsRefusedByAssignments p r
  next_cycle : assigned_twice p ≡ None → Acyclic (dependencies p when.First) → TellsCycle p when.Next r → IsRefusedByAssignments p r

-- the stop is the refusal of a variable that is assigned twice, or memory was refused
abbrev pub IsTwiceStop : Program → TextStop → Type 0
IsTwiceStop p (Refused r) = assigned_twice p ≡ Some r
IsTwiceStop p NoMemory = Unit {0}

-- the stop is the refusal of a cycle of this time, or memory was refused
abbrev pub IsCycleStop : Program → Time → TextStop → Type 0
IsCycleStop p time (Refused r) = TellsCycle p time r
IsCycleStop p time NoMemory = Unit {0}

-- the program is refused so, or memory was
abbrev pub IsAssignmentStop : Program → TextStop → Type 0
IsAssignmentStop p (Refused r) = IsRefusedByAssignments p r
IsAssignmentStop p NoMemory = Unit {0}
