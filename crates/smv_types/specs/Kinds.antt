-- The rules of depth, kinds and contexts: an own choice of this project (the kinds are those of manual 2.1 and 2.2).
use Rattle.std.specs.Prelude.{ℕ, ◌+◌, ◌==◌, nat_lt, Bool, true, false, not, ◌&&◌, ◌||◌, if◌then◌else◌, List, [], ◌∷◌, ◌++◌, codes, Option, None, Some, Ok, Err, slice_get, ℤ, pos}
use Rattle.std.specs.List.{list_any}
use Rattle.std.specs.Option.{is_some}
use Rattle.smv_value.specs.declared.operator.Operator.{Operator}
use Rattle.smv_value.specs.declared.operator.Operator.TheVariants as operator
use Rattle.smv_value.specs.declared.value.FaultRule.TheVariants as fault
use Rattle.smv_value.specs.declared.value.Value.{Value}
use Rattle.smv_value.specs.Results.{is_value}
use Rattle.value_types.specs.declared.interval.Interval.{Interval as Span}
use Rattle.value_types.specs.declared.value_type.Element.{Element}
use Rattle.value_types.specs.declared.value_type.Element.TheVariants as element
use Rattle.value_types.specs.declared.value_type.ValueType.{ValueType}
use Rattle.value_types.specs.declared.value_type.ValueType.TheVariants as type
use Rattle.value_types.specs.Intervals.{interval_of}
use Rattle.smv_kinds.specs.declared.kind.Interval.{Interval}
use Rattle.smv_kinds.specs.declared.kind.Kind.{Kind}
use Rattle.smv_kinds.specs.declared.kind.Kind.TheVariants as kind
use Rattle.smv_kinds.specs.declared.kind.KindRule.{KindRule}
use Rattle.smv_kinds.specs.declared.kind.KindRule.TheVariants as broken
use Rattle.smv_kinds.specs.declared.kind.Operand.{Operand}
use Rattle.smv_kinds.specs.Constants.{constant_given, integer_in}
use Rattle.smv_kinds.specs.Contexts.{kind_in_context, takes_sets}
use Rattle.smv_kinds.specs.Kinds.{Given, kind_given, kind_of_value, is_boolean, next_kind, takes}
use Rattle.smv_tree.specs.declared.place.Place.{Place}
use Rattle.smv_tree.specs.declared.refusal.Refusal.{Refusal}
use Rattle.smv_tree.specs.declared.refusal.Rule.{Rule}
use Rattle.smv_tree.specs.declared.refusal.Rule.TheVariants as rule
use Rattle.smv_tree.specs.declared.tree.Program.{Program}
use Rattle.smv_tree.specs.declared.tree.VariableKind.{VariableKind}
use Rattle.smv_tree.specs.declared.tree.VariableKind.TheVariants as sort
use Rattle.smv_tree.specs.declared.tree.AssignmentKind.{AssignmentKind}
use Rattle.smv_tree.specs.declared.tree.AssignmentKind.TheVariants as side
use Rattle.smv_tree.specs.declared.tree.ConstraintKind.{ConstraintKind}
use Rattle.smv_tree.specs.declared.tree.ConstraintKind.TheVariants as asked
use Rattle.smv_tree.specs.declared.tree.SpecificationKind.{SpecificationKind}
use Rattle.smv_tree.specs.declared.tree.SpecificationKind.TheVariants as claim
use Rattle.smv_tree.specs.Places.{start}
use Rattle.smv_slots.specs.declared.slot.Slot.{Slot}
use Rattle.smv_types.specs.declared.judged.Indexing.{Indexing}
use Rattle.smv_declared.specs.declared.constant.Constant.{Constant}
use Rattle.smv_declared.specs.Constants.{constants_of, integer_of}
use Rattle.whole_numbers.specs.Decimals.{decimal_text}
use Rattle.smv_declared.specs.Types.{most_slots, slot_count}
use Rattle.smv_slots.specs.Slots.{slots_of, is_input}
use Rattle.smv_resolve.specs.declared.item.ItemKind.{ItemKind}
use Rattle.smv_resolve.specs.declared.item.ItemKind.TheVariants as item
use Rattle.smv_resolve.specs.declared.node.Naming.TheVariants as naming
use Rattle.smv_resolve.specs.Resolved.{Operands, Resolved}
use Rattle.smv_resolve.specs.Items.{ResolvedItem, first_stuck, items_of as resolved_items}
use Rattle.smv_layout.specs.Layout.{items_of}
use Rattle.smv_slots.specs.Slots.{types_of}
use Rattle.smv_verdicts.specs.Verdicts.{or_else, first_of, plain, detailed}
use Rattle.smv_meaning.specs.Formulas.{is_over_formulas, is_temporal}

abbrev pub deep_at : Option Place → Option Refusal
deep_at None = None
deep_at (Some place) = Some (plain rule.UnfoldedDepth place)

-- no item nests too deep, where names are followed
abbrev pub too_deep : Program → Option Refusal
too_deep p = deep_at (first_stuck (resolved_items p))

-- there are not more
abbrev pub too_many_slots : Program → Option Refusal
too_many_slots p = if nat_lt most_slots (slot_count p) then Some (plain rule.TooManySlots start) else None

-- What may stand somewhere: `next`, inputs, temporal operators, and sets.
pub record Context : Type 0 where
  pub next : Bool
  pub input : Bool
  pub temporal : Bool
  pub set : Bool

-- where a step is spoken of (manual 2.3.7, TRANS Constraint), where a state is, and where a path is (manual 2.4.3, LTL
-- Specifications); sets may stand in what is assigned alone (manual 2.3.8, ASSIGN Constraint)
abbrev pub of_step : Bool → Context
of_step set = record { next = true; input = true; temporal = false; set = set }

abbrev pub of_state : Bool → Context
of_state set = record { next = false; input = false; temporal = false; set = set }

abbrev pub of_path : Context
of_path = record { next = false; input = true; temporal = true; set = false }

-- in what a name stands for there is no `next` and no temporal operator
abbrev pub under_name : Context → Context
under_name c = record { next = false; input = c.input; temporal = false; set = c.set }

-- an element of an array holds no temporal operator
abbrev pub under_element : Context → Context
under_element c = record c { temporal = false }

-- under `next` there is no input either
abbrev pub under_next : Context → Context
under_next c = of_state c.set

-- Under the operand of this number: temporal operators stand under propositions and temporal operators alone, and sets
-- on the right of `in`, too.
abbrev pub under_operand : Operator → ℕ → Context → Context
under_operand o k c = record c { temporal = c.temporal && is_over_formulas o; set = takes_sets o k c.set }

-- Kinds.

abbrev pub interval_with : Option Span → Option Interval
interval_with None = None
interval_with (Some i) = Some (record { low = i.low; high = i.high })

abbrev pub is_symbol : Element → Bool
is_symbol (element.Sym n) = true
is_symbol (element.Int z) = false

-- the kind of a variable of a type
abbrev pub kind_of_type : ValueType → Kind
kind_of_type type.Boolean = kind.Boolean
kind_of_type (type.Word signed width) = kind.Word signed width
kind_of_type (type.Range low high) = kind.Discrete (record { integers = interval_with (interval_of (type.Range low high)); symbols = false })
kind_of_type (type.Enumeration elements) =
    kind.Discrete (record { integers = interval_with (interval_of (type.Enumeration elements)); symbols = list_any is_symbol elements })

abbrev pub kind_of_some : Option ValueType → Kind
kind_of_some None = kind.Nothing
kind_of_some (Some t) = kind_of_type t

abbrev pub kind_of_slot : List ValueType → Option Slot → Kind
kind_of_slot types None = kind.Nothing
kind_of_slot types (Some slot) = kind_of_some (slice_get types slot.declared)

abbrev pub kind_in : Given → Kind
kind_in (Ok k) = k
kind_in (Err r) = kind.Nothing

-- what is no constant
abbrev pub of_kind : Kind → Operand
of_kind k = record { kind = k; constant = None }

-- Expressions: the kind of each, and the integer that it is if it is a constant.
abbrev mutual
  pub told : List Slot → List ValueType → Resolved → Operand
  told slots types (Resolved.Constant place v) = record { kind = kind_of_value v; constant = integer_in (Some v) }
  told slots types (Resolved.Slot place n) = of_kind (kind_of_slot types (slice_get slots n))
  told slots types (Resolved.Whole place i) = of_kind kind.Instance
  told slots types (Resolved.Named place naming r) = told slots types r
  told slots types (Resolved.Next place r) = of_kind (kind_in (next_kind (told slots types r).kind))
  told slots types (Resolved.Apply place o rs) =
      record { kind = kind_in (kind_given o (all_told slots types rs)); constant = constant_given o (all_told slots types rs) }
  told slots types Resolved.Stuck = of_kind kind.Nothing

  pub all_told : List Slot → List ValueType → Operands → List Operand
  all_told slots types Operands.End = []
  all_told slots types (Operands.With r rs) = told slots types r ∷ all_told slots types rs

-- values of this kind, one or a set of them
abbrev pub has_values : Kind → Bool
has_values kind.Array = false
has_values kind.Instance = false
has_values kind.Nothing = false
has_values other = true

-- a place where a value is wanted, and there is none
abbrev pub no_value : Place → Kind → Option Refusal
no_value place k = if has_values k then None else Some (plain rule.TypeMismatch place)

abbrev pub is_input_slot : Option Slot → Bool
is_input_slot None = false
is_input_slot (Some slot) = is_input slot.kind

-- an input stands where none may
abbrev pub input_here : Context → Place → Bool → Option Refusal
input_here c place input = if input && not c.input then Some (plain rule.InputHere place) else None

-- a `next` stands where none may
abbrev pub next_here : Context → Place → Option Refusal
next_here c place = if c.next then None else Some (plain rule.NextHere place)

-- a temporal operator stands where none may
abbrev pub temporal_at : Place → Operator → Option Refusal
temporal_at place o = if is_temporal o then Some (plain rule.TemporalHere place) else None

abbrev pub temporal_here : Context → Place → Operator → Option Refusal
temporal_here c place o = if c.temporal then None else temporal_at place o

abbrev pub rule_of : KindRule → Rule
rule_of broken.SetHere = rule.SetHere
rule_of broken.TypeMismatch = rule.TypeMismatch
rule_of broken.WordWidth = rule.WordWidth
rule_of broken.NotConstant = rule.NotConstant
rule_of broken.BadSelection = rule.BadSelection
rule_of broken.IntWidth = rule.IntWidth
rule_of broken.BadBound = rule.BadBound

abbrev pub bounds_text : ℤ → ℤ → List ℕ
bounds_text low high = decimal_text low ++ codes "," ++ decimal_text high

abbrev pub both_integers : Option ℤ → Option ℤ → Option (ℤ × ℤ)
both_integers (Some low) (Some high) = Some (low, high)
both_integers low high = None

-- the bounds before a formula, where they are constants
abbrev pub written_bounds : List Constant → Option (ℤ × ℤ)
written_bounds (low ∷ high ∷ cs) = both_integers (integer_of low) (integer_of high)
written_bounds cs = None

abbrev pub with_bounds : Place → ℤ × ℤ → Refusal
with_bounds place bounds = detailed rule.BadBound place (bounds_text bounds.0 bounds.1)

-- Bounds that stay as they are written are none: they are no constants, or constants that lie outside.
abbrev pub window_refusal : Place → Option (ℤ × ℤ) → Refusal
window_refusal place None = plain rule.NotConstant place
window_refusal place (Some bounds) = with_bounds place bounds

-- a rule that operands break, where these are the bounds that they are
abbrev pub broken_by : Place → Operator → Option (ℤ × ℤ) → KindRule → Refusal
broken_by place (operator.Window o) bounds broken.NotConstant = window_refusal place bounds
broken_by place (operator.Window o) bounds broken.BadBound = window_refusal place bounds
broken_by place (operator.Bounded o low high) bounds broken.BadBound = with_bounds place (pos low, pos high)
broken_by place o bounds r = plain (rule_of r) place

abbrev pub kinds_broken : Place → Operator → Option (ℤ × ℤ) → Given → Option Refusal
kinds_broken place o bounds (Ok k) = None
kinds_broken place o bounds (Err r) = Some (broken_by place o bounds r)

-- `next` of what has no single value
abbrev pub next_broken : Place → Given → Option Refusal
next_broken place (Ok k) = None
next_broken place (Err r) = Some (plain (rule_of r) place)

-- Bounds that stay as they are written are none, and their operator is refused: they are not judged themselves.
abbrev pub is_bound : Operator → ℕ → Bool
is_bound (operator.Window o) k = nat_lt k 2
is_bound other k = false

-- what an operand of this number breaks, if it is no such bound
abbrev pub unless_bound : Operator → ℕ → Option Refusal → Option Refusal
unless_bound o k broken = if is_bound o k then None else broken

-- what is no value: an integer of more than 32 bits, which no source has
abbrev pub constant_here : Place → Value → Option Refusal
constant_here place v = if is_value v then None else Some (plain rule.IntWidth place)

-- the place of an expression
abbrev pub place_of : Resolved → Place
place_of (Resolved.Constant place b) = place
place_of (Resolved.Slot place n) = place
place_of (Resolved.Whole place i) = place
place_of (Resolved.Named place naming r) = place
place_of (Resolved.Next place r) = place
place_of (Resolved.Apply place o rs) = place
place_of Resolved.Stuck = start

-- The first refusal in an expression: operands before their operator, from left to right; at an operator contexts
-- before kinds. What a definition stands for has to have values, and is refused at its own place where it is an
-- instance. The name of an array comes before the indices: where no input may stand, that of an array of inputs is
-- refused, whatever the indices are.
abbrev mutual
  pub kind_refusal : List Slot → List ValueType → Context → Resolved → Option Refusal
  kind_refusal slots types c (Resolved.Constant place v) = constant_here place v
  kind_refusal slots types c (Resolved.Slot place n) = input_here c place (is_input_slot (slice_get slots n))
  kind_refusal slots types c (Resolved.Whole place i) = None
  kind_refusal slots types c (Resolved.Named place naming.Given r) = kind_refusal slots types (under_name c) r
  kind_refusal slots types c (Resolved.Named place naming.Passed r) = kind_refusal slots types (under_name c) r
  kind_refusal slots types c (Resolved.Named place naming.Element r) = kind_refusal slots types (under_element c) r
  kind_refusal slots types c (Resolved.Named place (naming.Array name first) r) =
      or_else (input_here c name (is_input_slot (slice_get slots first))) (kind_refusal slots types (under_element c) r)
  kind_refusal slots types c (Resolved.Named place naming.Defined r) =
      or_else (kind_refusal slots types (under_name c) r) (no_value (place_of r) (told slots types r).kind)
  kind_refusal slots types c (Resolved.Next place r) =
      or_else (kind_refusal slots types (under_next c) r) (or_else (next_here c place) (next_broken place (next_kind (told slots types r).kind)))
  kind_refusal slots types c (Resolved.Apply place o rs) =
      or_else (operands_refusal slots types o 0 c rs)
      (or_else (temporal_here c place o) (kinds_broken place o (written_bounds (constants_of rs)) (kind_in_context c.set o (all_told slots types rs))))
  kind_refusal slots types c Resolved.Stuck = None

  -- the first one in operands of this operator, the first of which has number k
  pub operands_refusal : List Slot → List ValueType → Operator → ℕ → Context → Operands → Option Refusal
  operands_refusal slots types o k c Operands.End = None
  operands_refusal slots types o k c (Operands.With r rs) =
      or_else (unless_bound o k (kind_refusal slots types (under_operand o k c) r)) (operands_refusal slots types o (k + 1) c rs)

-- a variable of this kind may be assigned so: a frozen one by `init` alone (manual 2.3.8, ASSIGN Constraint)
abbrev pub takes_assignment : AssignmentKind → VariableKind → Bool
takes_assignment which sort.State = true
takes_assignment which sort.Input = false
takes_assignment side.Init sort.Frozen = true
takes_assignment side.Next sort.Frozen = false
takes_assignment side.Current sort.Frozen = false

abbrev pub slot_takes : AssignmentKind → Option Slot → Bool
slot_takes which None = false
slot_takes which (Some slot) = takes_assignment which slot.kind

-- What is assigned is a variable, by its name or as a parameter was given it, or an element of an array, by an index
-- that is a constant. An instance and a whole array are told as ones of another kind.
abbrev pub is_assignable : List Slot → AssignmentKind → Resolved → Bool
is_assignable slots which (Resolved.Slot place n) = slot_takes which (slice_get slots n)
is_assignable slots which (Resolved.Whole place i) = true
is_assignable slots which (Resolved.Named place naming.Given r) = is_assignable slots which r
is_assignable slots which (Resolved.Named place naming.Element r) = is_assignable slots which r
is_assignable slots which (Resolved.Named place (naming.Array name first) r) = is_assignable slots which r
is_assignable slots which (Resolved.Apply place operator.WholeArray rs) = true
is_assignable slots which (Resolved.Apply place operator.Index rs) = true
is_assignable slots which other = false

-- the index by which an element is chosen is a constant
abbrev pub is_chosen_by_constant : List Slot → List ValueType → Resolved → Bool
is_chosen_by_constant slots types (Resolved.Apply place operator.Subscript (Operands.With r rs)) = is_some (told slots types r).constant
is_chosen_by_constant slots types (Resolved.Apply place operator.Equal (Operands.With r rs)) = is_chosen_by_constant slots types r
is_chosen_by_constant slots types other = false

-- an index with which a parameter was given an array, or a part of the choice of an element by one
abbrev pub is_passed : Resolved → Bool
is_passed (Resolved.Named place naming.Passed r) = true
is_passed (Resolved.Apply place operator.Subscript (Operands.With r rs)) = is_passed r
is_passed (Resolved.Apply place operator.Equal (Operands.With r rs)) = is_passed r
is_passed other = false

-- the condition that an index is an integer
abbrev pub asks_index : Resolved → Bool
asks_index (Resolved.Apply place operator.Equal rs) = true
asks_index other = false

-- an index of an array that waits for more is a constant, and one of its dimension
abbrev pub is_within : Resolved → Bool
is_within (Resolved.Named place naming.Element r) = true
is_within other = false

abbrev pub indexing_of : List Slot → List ValueType → Resolved → Indexing
indexing_of slots types r =
    record { by_constant = is_chosen_by_constant slots types r; passed = is_passed r; asked = asks_index r; within = is_within r }

-- An index on a left side is a constant, and one of the array.
abbrev pub index_rule : Bool → Rule
index_rule false = rule.NotConstant
index_rule true = rule.BadSelection

abbrev pub not_within : Place → Bool → Bool → Option Refusal
not_within place within constant = if within then None else Some (plain (index_rule constant) place)

-- What may stand in what a parameter was given and in an index, on a left side: no `next`. A left side is in no context
-- else.
abbrev pub on_the_left : Bool → Context
on_the_left set = under_name (of_step set)

-- a definition that has an index on a left side is judged
abbrev pub defined_refusal : List Slot → List ValueType → Resolved → Option Refusal
defined_refusal slots types (Resolved.Named place naming.Defined r) = kind_refusal slots types (on_the_left false) (Resolved.Named place naming.Defined r)
defined_refusal slots types other = None

-- An index of an array that waits for more: where the array is broken by none, the index is judged, then the two by
-- their kinds; and it is a constant, and one of the array.
abbrev pub waiting_refusal : List Slot → List ValueType → Place → Resolved → Resolved → Option Refusal
waiting_refusal slots types place a i =
    or_else (kind_refusal slots types (on_the_left false) i)
    (or_else (kinds_broken place operator.Index None (kind_in_context false operator.Index (told slots types a ∷ told slots types i ∷ [])))
    (not_within place (is_within i) (is_some (told slots types i).constant)))

-- An index by which an element is chosen: where a parameter was given it, it is judged as what it was given, and then
-- those that follow are; any other is refused, since it is no constant, or none of the array.
abbrev pub chosen_refusal : List Slot → List ValueType → Place → Resolved → Option Refusal → Option Refusal
chosen_refusal slots types place condition inner =
    if is_passed condition then or_else (kind_refusal slots types (on_the_left true) condition) inner
    else if asks_index condition
    then or_else (kind_refusal slots types (on_the_left false) condition) (Some (plain (index_rule (is_chosen_by_constant slots types condition)) place))
    else None

-- What a parameter was given is judged on a left side, too, and so is each index, from left to right.
abbrev pub inner_refusal : List Slot → List ValueType → Resolved → Option Refusal
inner_refusal slots types (Resolved.Named place naming.Given r) = kind_refusal slots types (on_the_left true) r
inner_refusal slots types (Resolved.Named place naming.Element r) = inner_refusal slots types r
inner_refusal slots types (Resolved.Named place (naming.Array name first) r) = inner_refusal slots types r
inner_refusal slots types (Resolved.Apply place operator.Index (Operands.With a (Operands.With i rs))) =
    or_else (defined_refusal slots types a) (or_else (inner_refusal slots types a) (waiting_refusal slots types place a i))
inner_refusal slots types (Resolved.Apply place (operator.Choice fault.IndexOutside) (Operands.With condition (Operands.With r rs))) =
    chosen_refusal slots types place condition (inner_refusal slots types r)
inner_refusal slots types other = None

-- told at the left side, with which the assignment begins
abbrev pub target_refusal : List Slot → Place → AssignmentKind → Resolved → Option Refusal
target_refusal slots place which r = if is_assignable slots which r then None else Some (plain rule.NotAssignable place)

-- what may stand in the value of an assignment: what `next(x) := e` says is of a step
abbrev pub context_of_side : AssignmentKind → Context
context_of_side side.Next = of_step true
context_of_side other = of_state true

abbrev pub context_of_constraint : ConstraintKind → Context
context_of_constraint asked.Trans = of_step false
context_of_constraint other = of_state false

abbrev pub context_of_specification : SpecificationKind → Context
context_of_specification claim.Invariant = of_state false
context_of_specification claim.Temporal = of_path

-- an expression that has to be a boolean
abbrev pub no_boolean : Place → Kind → Option Refusal
no_boolean place k = if is_boolean k then None else Some (plain rule.TypeMismatch place)

-- rules that are asked at a node after that of its kind
abbrev pub is_after_kind : Rule → Bool
is_after_kind rule.WordWidth = true
is_after_kind rule.NotConstant = true
is_after_kind rule.BadSelection = true
is_after_kind rule.IntWidth = true
is_after_kind other = false

abbrev pub is_at : Place → Place → Bool
is_at a b = (a.line == b.line) && (a.column == b.column)

-- a temporal operator with its bounds as they are written
abbrev pub is_window_operator : Operator → Bool
is_window_operator (operator.Window o) = true
is_window_operator other = false

abbrev pub is_window : Resolved → Bool
is_window (Resolved.Apply place o rs) = is_window_operator o
is_window other = false

-- At the root of what has to be a boolean, that it is none comes before the rules that are asked after that.
abbrev pub first_at_root : Bool → Place → Refusal → Refusal
first_at_root boolean place r =
    if not boolean && is_after_kind r.rule && is_at r.place place then plain rule.TypeMismatch place else r

-- what a temporal operator gives is a boolean, whatever its bounds are
abbrev pub at_root : Bool → Place → Kind → Option Refusal → Option Refusal
at_root window place k None = no_boolean place k
at_root window place k (Some r) = Some (first_at_root (window || is_boolean k) place r)

abbrev pub formula_refusal : List Slot → List ValueType → Context → Resolved → Option Refusal
formula_refusal slots types c r = at_root (is_window r) (place_of r) (told slots types r).kind (kind_refusal slots types c r)

-- The left side of an assignment: what a parameter was given there and the indices, what may be assigned, and that it
-- has values.
abbrev pub left_refusal : List Slot → List ValueType → Place → AssignmentKind → Resolved → Option Refusal
left_refusal slots types place which target =
    or_else (inner_refusal slots types target) (or_else (target_refusal slots place which target) (no_value place (told slots types target).kind))

-- the value of an assignment is of the kind of what is assigned, or a set of such values
abbrev pub no_taker : Place → Kind → Kind → Option Refusal
no_taker place x e = if takes x e then None else Some (plain rule.TypeMismatch place)

-- the left side before the right one
abbrev pub assignment_refusal : List Slot → List ValueType → Place → AssignmentKind → Option Resolved → Resolved → Option Refusal
assignment_refusal slots types place which None e = Some (plain rule.NotAssignable place)
assignment_refusal slots types place which (Some target) e =
    or_else (left_refusal slots types place which target)
    (or_else (kind_refusal slots types (context_of_side which) e) (no_taker place (told slots types target).kind (told slots types e).kind))

abbrev pub refusal_by_kind : List Slot → List ValueType → Place → Option Resolved → Resolved → ItemKind → Option Refusal
refusal_by_kind slots types place target e (item.Assignment which) = assignment_refusal slots types place which target e
refusal_by_kind slots types place target e (item.Constraint which) = formula_refusal slots types (context_of_constraint which) e
refusal_by_kind slots types place target e (item.Specification which) = formula_refusal slots types (context_of_specification which) e

-- the first refusal of an item by kinds and contexts
abbrev pub item_refusal : List Slot → List ValueType → ResolvedItem → Option Refusal
item_refusal slots types x = refusal_by_kind slots types x.place x.target x.value x.kind

abbrev pub misused : Program → Option Refusal
misused p = first_of (item_refusal (slots_of p) (types_of p)) (items_of p)
