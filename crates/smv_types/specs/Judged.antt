-- What is noted of nodes, and so of the expressions that they are.
use Rattle.std.specs.Prelude.{◌≡◌, ℕ, ℤ, pos, Bool, true, false, List, length, map, Option, None, Some, slice_index_or}
use Rattle.smv_tree.specs.declared.refusal.Refusal.{Refusal}
use Rattle.smv_tree.specs.declared.tree.AssignmentKind.TheVariants as side
use Rattle.smv_tree.specs.Places.{start}
use Rattle.value_types.specs.declared.value_type.ValueType.{ValueType}
use Rattle.smv_kinds.specs.declared.kind.Operand.{Operand}
use Rattle.smv_kinds.specs.declared.kind.Kind.TheVariants as kind
use Rattle.smv_slots.specs.declared.slot.Slot.{Slot}
use Rattle.smv_resolve.specs.Resolved.{Resolved, part_at}
use Rattle.smv_types.specs.declared.judged.Indexing.{Indexing}
use Rattle.smv_types.specs.declared.judged.Judged.{Judged}
use Rattle.smv_types.specs.declared.judged.Notes.{Notes}
use Rattle.smv_types.specs.declared.judged.TimedViolation.{TimedViolation}
use Rattle.smv_types.specs.declared.judged.ToldBounds.{ToldBounds}
use Rattle.smv_types.specs.declared.judged.ToldBounds.TheVariants as bounds
use Rattle.smv_types.specs.declared.judged.WrittenBounds.{WrittenBounds}
use Rattle.smv_types.specs.declared.judged.Violation.{Violation}
use Rattle.smv_types.specs.declared.items.Part.{Part}
use Rattle.smv_types.specs.Kinds.{Context, of_state, of_step, of_path, under_name, bounds_text, defined_refusal, indexing_of, inner_refusal, is_assignable, is_window, kind_refusal, of_kind, place_of, told}
use Rattle.smv_verdicts.specs.Verdicts.{plain}

-- bounds that are lent

abbrev pub read_bounds : Option WrittenBounds → Option (ℤ × ℤ)
read_bounds None = None
read_bounds (Some b) = Some (b.low.now, b.high.now)

abbrev pub told_bounds : ToldBounds → ℤ × ℤ
told_bounds (bounds.Written b) = (b.low.now, b.high.now)
told_bounds (bounds.Kept low high) = (pos low, pos high)

abbrev pub text_of : ℤ × ℤ → List ℕ
text_of b = bounds_text b.0 b.1

abbrev pub detail_of : Option ToldBounds → Option (List ℕ)
detail_of None = None
detail_of (Some b) = Some (text_of (told_bounds b))

abbrev pub as_refusal : Option Violation → Option Refusal
as_refusal None = None
as_refusal (Some v) = Some (plain v.rule v.place)

-- the same where temporal operators may stand, with bounds where these are told
abbrev pub as_told : TimedViolation → Refusal
as_told v = record { rule = v.violation.rule; place = v.violation.place; detail = detail_of v.bounds }

abbrev pub timed_refusal : Option TimedViolation → Option Refusal
timed_refusal None = None
timed_refusal (Some v) = Some (as_told v)

-- no bounds are told
abbrev pub timed : Option Violation → Option TimedViolation
timed None = None
timed (Some v) = Some (record { violation = v; bounds = None })

-- in what a name stands for where a step or a path is spoken of
abbrev pub of_name : Bool → Context
of_name set = under_name (of_step set)

-- What is noted is the first refusal in each context: where a step is spoken of, in what a name stands for there, where
-- a state is, each without sets and with them, and where a path is.
pub record AreNotes (refusal : Context → Option Refusal) (n : Notes) : Type 0 where
  pub step : as_refusal n.step ≡ refusal (of_step false)
  pub step_set : as_refusal n.step_set ≡ refusal (of_step true)
  pub name : as_refusal n.name ≡ refusal (of_name false)
  pub name_set : as_refusal n.name_set ≡ refusal (of_name true)
  pub state : as_refusal n.state ≡ refusal (of_state false)
  pub state_set : as_refusal n.state_set ≡ refusal (of_state true)
  pub path : timed_refusal n.path ≡ refusal of_path

-- what is noted is so of this expression: its place, the first refusal in it in each context, and where it is assigned
pub record IsJudged (slots : List Slot) (types : List ValueType) (r : Resolved) (j : Judged) : Type 0 where
  pub place : j.place ≡ place_of r
  pub notes : AreNotes (λ c. kind_refusal slots types c r) j.notes
  pub inner : as_refusal j.inner ≡ inner_refusal slots types r
  pub defined : as_refusal j.defined ≡ defined_refusal slots types r
  pub indexing : j.indexing ≡ indexing_of slots types r
  pub window : j.is_window ≡ is_window r
  pub init : j.takes_init ≡ is_assignable slots side.Init r
  pub later : j.takes_later ≡ is_assignable slots side.Next r

abbrev pub no_notes : Notes
no_notes = record { step = None; step_set = None; name = None; name_set = None; state = None; state_set = None; path = None }

-- what asks no index
abbrev pub no_indexing : Indexing
no_indexing = record { by_constant = false; passed = false; asked = false; within = false }

-- what is noted of nothing
abbrev pub nothing : Judged
nothing = record { place = start; notes = no_notes; inner = None; defined = None; indexing = no_indexing; is_window = false; takes_init = false; takes_later = false }

-- what is noted at this number
abbrev pub judged_at : List Judged → ℕ → Judged
judged_at table k = slice_index_or table k nothing

-- what is told at this number
abbrev pub told_at : List Operand → ℕ → Operand
told_at operands k = slice_index_or operands k (of_kind kind.Nothing)

-- what is noted at each number is so of the part of this number
pub record AreJudged (slots : List Slot) (types : List ValueType) (parts : List Resolved) (table : List Judged) : Type 0 where
  pub long : length table ≡ length parts
  pub each : (k : ℕ) → IsJudged slots types (part_at parts k) (judged_at table k)

-- and so is what is told
pub record Tells (slots : List Slot) (types : List ValueType) (parts : List Resolved) (operands : List Operand) (table : List Judged) : Type 0 where
  pub kinds : operands ≡ map (told slots types) parts
  pub judged : AreJudged slots types parts table

-- what is told and noted is so of this expression
pub record IsOf (slots : List Slot) (types : List ValueType) (r : Resolved) (x : Part) : Type 0 where
  pub kind : x.kind ≡ (told slots types r).kind
  pub judged : IsJudged slots types r x.judged
