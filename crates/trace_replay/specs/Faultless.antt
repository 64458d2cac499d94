-- What is evaluated without a fault: the items that ask something of a state or of a step, and a formula at the times
-- of a lasso. What faults is neither TRUE nor FALSE.
use Rattle.std.specs.Prelude.{◌≡◌, ℕ, ◌+◌, ◌-◌, ◌<◌, nat_lt, Bool, true, not, ◌&&◌, ◌||◌, List, [], length}
use Rattle.std.specs.List.{list_all}
use Rattle.std.specs.Option.{is_none}
use Rattle.smv_tree.specs.declared.tree.Program.{Program}
use Rattle.smv_value.specs.declared.value.Value.{Value}
use Rattle.smv_resolve.specs.declared.item.ItemKind.{ItemKind}
use Rattle.smv_resolve.specs.Items.{ResolvedItem}
use Rattle.smv_layout.specs.Layout.{items_of}
use Rattle.smv_slots.specs.Slots.{slots_of, types_of}
use Rattle.smv_meaning.specs.declared.outcome.Evaluation.{Evaluation}
use Rattle.smv_meaning.specs.declared.outcome.Evaluation.TheVariants.{Nothing}
use Rattle.smv_meaning.specs.Faults.{item_fault}
use Rattle.smv_meaning.specs.Lassos.{Lasso}
use Rattle.smv_meaning.specs.Runs.{asks_always, asks_first, asks_step, at_time, is_first_state, is_step, meets_invariants}
use Rattle.trace_replay.specs.declared.faultless.Asked.{Asked}
use Rattle.trace_replay.specs.declared.faultless.Asked.TheVariants.{First, Always, Step}

-- what items ask of an initial state, of each state, and of a step
abbrev pub asks : Asked → Evaluation → Evaluation → ItemKind → Bool
asks First = asks_first
asks Always = asks_always
asks Step = asks_step

-- an item of this kind asks something: not every outcome will do
abbrev pub is_asking : Asked → ItemKind → Bool
is_asking asked kind = not (asks asked Nothing Nothing kind)

-- the item does not fault in the state s, or in the step from it with the inputs u to the state t
abbrev pub is_faultless : Program → List Value → List Value → List Value → ResolvedItem → Bool
is_faultless p s u t x = is_none (item_fault (types_of p) (slots_of p) s u t x)

-- nor does any item that asks something
abbrev pub all_faultless : Asked → Program → List Value → List Value → List Value → Bool
all_faultless asked p s u t = list_all (λ (x : ResolvedItem). not (is_asking asked x.kind) || is_faultless p s u t x) (items_of p)

-- an initial state, in which no item faults that asks something of an initial state
abbrev pub begins_well : Program → List Value → Bool
begins_well p s = is_first_state p s && all_faultless First p s [] []

-- what invariants ask of each state, and none of these faults there
abbrev pub stays_well : Program → List Value → Bool
stays_well p s = meets_invariants p s && all_faultless Always p s [] []

-- a step, in which no item faults that asks something of a step, or of a state at one of its ends
abbrev pub steps_well : Program → List Value → List Value → List Value → Bool
steps_well p s u t = is_step p s u t && (all_faultless Step p s u t && (all_faultless Always p s [] [] && all_faultless Always p t [] []))

-- the formula does not fault in state i with the inputs of the step from it
abbrev pub is_evaluated : Program → ResolvedItem → List (List Value) → List (List Value) → ℕ → Bool
is_evaluated p spec states inputs i = not (nat_lt i (length states)) || is_faultless p (at_time states i) (at_time inputs i) [] spec

-- nothing that is asked along a run faults: of its first state, of each state, and of the steps between them
pub record IsFaultlessRun (p : Program) (states inputs : List (List Value)) : Type 0 where
  pub first : all_faultless First p (at_time states 0) [] [] ≡ true
  pub each : (i : ℕ) → i < length states → all_faultless Always p (at_time states i) [] [] ≡ true
  pub steps : (i : ℕ) → i + 1 < length states → all_faultless Step p (at_time states i) (at_time inputs i) (at_time states (i + 1)) ≡ true

-- nor along a lasso: of its step back too, and of a formula at each of its times
pub record IsFaultlessLasso (p : Program) (spec : ResolvedItem) (w : Lasso) : Type 0 where
  pub run : IsFaultlessRun p w.states w.inputs
  pub back : all_faultless Step p (at_time w.states (length w.states - 1)) (at_time w.inputs (length w.states - 1)) (at_time w.states w.start) ≡ true
  pub formula : (i : ℕ) → is_evaluated p spec w.states w.inputs i ≡ true
