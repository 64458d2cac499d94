-- The trace of a run that breaks the specification passes all tests.
use Rattle.std.proofs.Common.{◌≡◌, inl, inr, ℕ, zero, suc, ◌+◌, ◌-◌, ◌<◌, max, true, ◌&&◌, List, [], ◌∷◌, length, map, Option, Some, refl, sym, subst, ap, ◌∙◌, arith, unwrap_or, slice_get}
use lib.Dec.{eqb, leb, ltb}
use Rattle.std.specs.List.{list_all, range_with_len}
use Rattle.std.specs.Option.{is_some}
use Rattle.std.proofs.lemmas.Bool.{and_from, and_parts, cases_lt, cond-false, cond-true, eqb-true, le-leb, le-ltb, lt-ltb, ltb-true}
use Rattle.std.proofs.lemmas.List.{get_or_default, length-map, same_lists}
use Rattle.std.proofs.lemmas.List.FromFn.{get_or-map-range_with_len, length-map-range_with_len}
use Rattle.std.proofs.lemmas.Option.{slice_get-get_or}
use Rattle.std.proofs.Math.ListN.{get_or-map}
use Rattle.smv_tree.specs.declared.tree.Program.{Program}
use Rattle.smv_tree.specs.declared.tree.AssignmentKind.TheVariants as side
use Rattle.smv_tree.specs.declared.tree.ConstraintKind.TheVariants as asks
use Rattle.smv_value.specs.declared.value.Value.{Value}
use Rattle.smv_resolve.specs.declared.item.ItemKind.{ItemKind}
use Rattle.smv_resolve.specs.declared.item.ItemKind.TheVariants as item
use Rattle.smv_resolve.specs.Items.{ResolvedItem}
use Rattle.smv_layout.specs.Layout.{items_of}
use Rattle.smv_slots.specs.declared.slot.Slot.{Slot}
use Rattle.smv_slots.specs.Slots.{slots_of}
use Rattle.smv_meaning.specs.declared.outcome.Evaluation.{Evaluation}
use Rattle.smv_meaning.specs.Runs.{Breaks, IsRun, allows_always, allows_first, allows_step, are_inputs, asks_always, asks_first, at_time, fits, input_slots, is_first_state, is_state, is_step, keeps_frozen, meets_invariants, outcome_of_target, state_slots}
use Rattle.smv_meaning.specs.Values.{outcome_in}
use Rattle.trace_replay.specs.declared.columns.Column.{Column}
use Rattle.trace_replay.specs.declared.entry.Binding.{Binding}
use Rattle.trace_replay.specs.declared.rule.ReplayRule.{ReplayRule}
use Rattle.trace_replay.specs.declared.rule.ReplayRule.TheVariants as rule
use Rattle.trace_replay.specs.declared.trace.Trace.{Trace}
use Rattle.trace_replay.specs.declared.faultless.Asked.TheVariants.{First, Always, Step}
use Rattle.trace_replay.specs.Faultless.{IsFaultlessRun, all_faultless, begins_well, stays_well, steps_well}
use Rattle.trace_replay.specs.Rows.{AreTypes, bindings_of, column_of, given_rows, input_columns, inputs_told, line_read, row_read, run_trace, state_columns, state_read, states_told, terms_of}
use Rattle.trace_replay.specs.Tests.{ShowsBroken, begins, ends, goes_on, inputs_fit, is_false, passes, state_fits, stays}
use Rattle.trace_replay.proofs.Cells.{row_back}
use Rattle.trace_replay.proofs.Shows.{each_fit, fit, fits_due, read_at, unasked, unless}

-- what is asked of an initial state has what is asked of each
always_from_first : (x e : Evaluation) (kind : ItemKind) → asks_first x e kind ≡ true → asks_always x e kind ≡ true
always_from_first x e (item.Assignment side.Init) h = refl
always_from_first x e (item.Assignment side.Next) h = refl
always_from_first x e (item.Assignment side.Current) h = h
always_from_first x e (item.Constraint asks.Init) h = refl
always_from_first x e (item.Constraint asks.Invar) h = h
always_from_first x e (item.Constraint asks.Trans) h = refl
always_from_first x e (item.Constraint asks.Justice) h = refl
always_from_first x e (item.Specification kind) h = refl

all_allowed : (slots : List Slot) (s : List Value) (items : List ResolvedItem) → list_all (allows_first slots s) items ≡ true → list_all (allows_always slots s) items ≡ true
all_allowed slots s [] h = refl
all_allowed slots s (x ∷ items) h =
    let both = and_parts (allows_first slots s x) (list_all (allows_first slots s) items) h in
    and_from (allows_always slots s x) (list_all (allows_always slots s) items)
    (always_from_first (outcome_of_target slots s x.target) (outcome_in slots s x.value) x.kind both.0) (all_allowed slots s items both.1)

module _ (p : Program) where
  pub first_parts : (s : List Value) → is_first_state p s ≡ true → (is_state p s ≡ true) × (meets_invariants p s ≡ true)
  first_parts s h =
      let both = and_parts (is_state p s) (list_all (allows_first (slots_of p) s) (items_of p)) h in
      (both.0, all_allowed (slots_of p) s (items_of p) both.1)

  pub step_parts : (s u t : List Value) → is_step p s u t ≡ true
      → (is_state p s ≡ true) × (are_inputs p u ≡ true) × (is_state p t ≡ true) × (meets_invariants p s ≡ true) × (meets_invariants p t ≡ true)
  step_parts s u t h =
      let a = and_parts (((is_state p s && are_inputs p u) && is_state p t) && keeps_frozen (slots_of p) s t && list_all (allows_step (slots_of p) s u t) (items_of p)) (meets_invariants p s && meets_invariants p t) h in
      let b = and_parts (((is_state p s && are_inputs p u) && is_state p t) && keeps_frozen (slots_of p) s t) (list_all (allows_step (slots_of p) s u t) (items_of p)) a.0 in
      let c = and_parts ((is_state p s && are_inputs p u) && is_state p t) (keeps_frozen (slots_of p) s t) b.0 in
      let d = and_parts (is_state p s && are_inputs p u) (is_state p t) c.0 in
      let e = and_parts (is_state p s) (are_inputs p u) d.0 in
      let f = and_parts (meets_invariants p s) (meets_invariants p t) a.1 in
      (e.0, e.1, d.1, f.0, f.1)

-- a step in which nothing faults that is asked of it and of its ends
pub steps_so : (p : Program) (s u t : List Value) → is_step p s u t ≡ true → all_faultless Step p s u t ≡ true → all_faultless Always p s [] [] ≡ true → all_faultless Always p t [] [] ≡ true
    → steps_well p s u t ≡ true
steps_so p s u t stepped step from to =
    and_from (is_step p s u t) (all_faultless Step p s u t && (all_faultless Always p s [] [] && all_faultless Always p t [] [])) stepped
    (and_from (all_faultless Step p s u t) (all_faultless Always p s [] [] && all_faultless Always p t [] []) step
    (and_from (all_faultless Always p s [] []) (all_faultless Always p t [] []) from to))

-- what is known of the states of a run
pub of_run : (p : Program) (states inputs : List (List Value)) → IsRun p states inputs → (i : ℕ) → i < length states
    → (is_state p (at_time states i) ≡ true) × (meets_invariants p (at_time states i) ≡ true)
of_run p states inputs run zero below = first_parts p (at_time states 0) run.first
of_run p states inputs run (suc i) below =
    let within : i < length inputs = let long = run.long in omega (arith, below, long) in
    let parts = step_parts p (at_time states i) (at_time inputs i) (at_time states (i + 1)) (run.steps i within) in
    let n : i + 1 ≡ suc i = omega arith in
    (subst (λ k. is_state p (at_time states k) ≡ true) n parts.2, subst (λ k. meets_invariants p (at_time states k) ≡ true) n parts.4)

module _ (p : Program) (types : AreTypes p) where
  -- rows of values
  module _ (slots : List Slot) where
    abbrev cols : List Column
    cols = map (column_of p) slots

    row_there : (rows : List (List Value)) (i : ℕ) → i < length rows → slice_get (map (bindings_of (terms_of p) cols) rows) i ≡ Some (bindings_of (terms_of p) cols (at_time rows i))
    row_there rows i within =
        slice_get-get_or (map (bindings_of (terms_of p) cols) rows) i (bindings_of (terms_of p) cols []) (let long = length-map rows (bindings_of (terms_of p) cols) in omega (arith, within, long))
        ∙ ap (λ (bs : List Binding). Some bs) (get_or-map (bindings_of (terms_of p) cols) rows i [])

    read_back : (rows : List (List Value)) (i : ℕ) → i < length rows → fits (terms_of p).types slots (at_time rows i) ≡ true → line_read (terms_of p) cols (slice_get (map (bindings_of (terms_of p) cols) rows) i) ≡ Some (at_time rows i)
    read_back rows i within h = ap (line_read (terms_of p) cols) (row_there rows i within) ∙ row_back p types slots (at_time rows i) h

  no_values : (u : List Value) → fits (terms_of p).types [] u ≡ true → [] ≡ u
  no_values [] h = refl
  no_values (v ∷ u) h = absurd (let e = eqb-true 0 (length (v ∷ u)) (and_parts (eqb 0 (length (v ∷ u))) true h).0 in let never : ⊥ = omega (arith, e) in never)

  given_at : (slots : List Slot) (inputs : List (List Value)) (i : ℕ) → i < length inputs → fits (terms_of p).types slots (at_time inputs i) ≡ true
      → read_at (terms_of p) (map (column_of p) slots) (given_rows (terms_of p) (map (column_of p) slots) inputs) i ≡ at_time inputs i
  given_at [] inputs i within h = no_values (at_time inputs i) h
  given_at (x ∷ slots) inputs i within h = ap (λ (o : Option (List Value)). unwrap_or o []) (read_back (x ∷ slots) inputs i within h)

  -- as many inputs are told as are due
  none_fit : (rows : List (List Binding)) → rows ≡ [] → (i : ℕ) → fits_due (terms_of p) [] rows 0 i ≡ true
  none_fit rows none i =
      ap (λ (l : List (List Binding)). fits_due (terms_of p) [] l 0 i) none
      ∙ cond-false (ltb i 0) (is_some (line_read (terms_of p) [] (slice_get [] i))) _ (le-ltb i 0 (omega arith)) ∙ unless (eqb i 0) (leb 0 i) (le-leb 0 i (omega arith))

  all_fit : (slots : List Slot) (inputs : List (List Value)) (m : ℕ) → m ≡ length inputs → ((i : ℕ) → i < length inputs → fits (terms_of p).types slots (at_time inputs i) ≡ true)
      → (i : ℕ) → fits_due (terms_of p) (map (column_of p) slots) (map (bindings_of (terms_of p) (map (column_of p) slots)) inputs) m i ≡ true
  all_fit slots inputs m long all i =
      let rows = map (bindings_of (terms_of p) (map (column_of p) slots)) inputs in
      let counted : length rows ≡ length inputs = length-map inputs (bindings_of (terms_of p) (map (column_of p) slots)) in
      elim (cases_lt i m) [
        | inl below ↦
            let within : i < length inputs = omega (arith, below, long) in
            cond-true (ltb i m) (is_some (line_read (terms_of p) (map (column_of p) slots) (slice_get rows i))) _ (lt-ltb i m below)
            ∙ ap (λ (o : Option (List Value)). is_some o) (read_back slots inputs i within (all i within))
        | inr past ↦
            cond-false (ltb i m) (is_some (line_read (terms_of p) (map (column_of p) slots) (slice_get rows i))) _ (le-ltb i m past)
            ∙ unless (eqb i m) (leb (length rows) i) (le-leb (length rows) i (omega (arith, counted, long, past)))
      ]

  given_fit : (slots : List Slot) (inputs : List (List Value)) (n : ℕ) → n ≡ length inputs + 1 → ((i : ℕ) → i < length inputs → fits (terms_of p).types slots (at_time inputs i) ≡ true)
      → (i : ℕ) → fit (terms_of p) (map (column_of p) slots) (given_rows (terms_of p) (map (column_of p) slots) inputs) n i ≡ true
  given_fit [] inputs n long all i = none_fit [] refl i
  given_fit (x ∷ slots) inputs n long all i = all_fit (x ∷ slots) inputs (n - 1) (omega (arith, long)) all i

  each_given_fit : (slots : List Slot) (inputs : List (List Value)) → ((i : ℕ) → i < length inputs → fits (terms_of p).types slots (at_time inputs i) ≡ true)
      → (i : ℕ) → each_fit (terms_of p) (map (column_of p) slots) (given_rows (terms_of p) (map (column_of p) slots) inputs) (length inputs) i ≡ true
  each_given_fit [] inputs all i = none_fit [] refl i
  each_given_fit (x ∷ slots) inputs all i = all_fit (x ∷ slots) inputs (length inputs) refl all i

  state_back : (s : List Value) → is_state p s ≡ true → row_read (terms_of p) (state_columns p) (bindings_of (terms_of p) (state_columns p) s) ≡ Some s
  unfolding state_columns terms_of
  state_back s h = row_back p types (state_slots (slots_of p)) s h

  pub states_back : (rows : List (List Value)) (i : ℕ) → i < length rows → is_state p (at_time rows i) ≡ true → line_read (terms_of p) (state_columns p) (slice_get (map (bindings_of (terms_of p) (state_columns p)) rows) i) ≡ Some (at_time rows i)
  unfolding state_columns terms_of
  states_back rows i within h = read_back (state_slots (slots_of p)) rows i within h

  inputs_at : (inputs : List (List Value)) (i : ℕ) → i < length inputs → are_inputs p (at_time inputs i) ≡ true
      → read_at (terms_of p) (input_columns p) (given_rows (terms_of p) (input_columns p) inputs) i ≡ at_time inputs i
  unfolding input_columns terms_of
  inputs_at inputs i within h = given_at (input_slots (slots_of p)) inputs i within h

  inputs_fitting : (inputs : List (List Value)) (n : ℕ) → n ≡ length inputs + 1 → ((i : ℕ) → i < length inputs → are_inputs p (at_time inputs i) ≡ true)
      → (i : ℕ) → fit (terms_of p) (input_columns p) (given_rows (terms_of p) (input_columns p) inputs) n i ≡ true
  unfolding input_columns terms_of
  inputs_fitting inputs n long all i = given_fit (input_slots (slots_of p)) inputs n long all i

  pub each_inputs_fitting : (inputs : List (List Value)) → ((i : ℕ) → i < length inputs → are_inputs p (at_time inputs i) ≡ true)
      → (i : ℕ) → each_fit (terms_of p) (input_columns p) (given_rows (terms_of p) (input_columns p) inputs) (length inputs) i ≡ true
  unfolding input_columns terms_of
  each_inputs_fitting inputs all i = each_given_fit (input_slots (slots_of p)) inputs all i

  -- the values that are told of values
  pub states_again : (states : List (List Value)) → ((i : ℕ) → i < length states → is_state p (at_time states i) ≡ true)
      → map (λ (bs : List Binding). unwrap_or (row_read (terms_of p) (state_columns p) bs) []) (map (bindings_of (terms_of p) (state_columns p)) states) ≡ states
  states_again states all =
      let told : List Binding → List Value = λ bs. unwrap_or (row_read (terms_of p) (state_columns p) bs) [] in
      let counted : length (map (bindings_of (terms_of p) (state_columns p)) states) ≡ length states = length-map states (bindings_of (terms_of p) (state_columns p)) in
      same_lists (map told (map (bindings_of (terms_of p) (state_columns p)) states)) states (length-map (map (bindings_of (terms_of p) (state_columns p)) states) told ∙ counted)
      (λ k d below.
      let within : k < length states = let whole = length-map (map (bindings_of (terms_of p) (state_columns p)) states) told in omega (arith, below, whole, counted) in
      get_or_default (map told (map (bindings_of (terms_of p) (state_columns p)) states)) k d (told (bindings_of (terms_of p) (state_columns p) [])) below
      ∙ get_or-map told (map (bindings_of (terms_of p) (state_columns p)) states) k (bindings_of (terms_of p) (state_columns p) [])
      ∙ ap told (get_or-map (bindings_of (terms_of p) (state_columns p)) states k [])
      ∙ ap (λ (o : Option (List Value)). unwrap_or o []) (state_back (at_time states k) (all k within))
      ∙ get_or_default states k [] d within)

  pub inputs_again : (inputs : List (List Value)) → ((i : ℕ) → i < length inputs → are_inputs p (at_time inputs i) ≡ true)
      → map (read_at (terms_of p) (input_columns p) (given_rows (terms_of p) (input_columns p) inputs)) (range_with_len 0 (length inputs)) ≡ inputs
  inputs_again inputs all =
      let read = read_at (terms_of p) (input_columns p) (given_rows (terms_of p) (input_columns p) inputs) in
      same_lists (map read (range_with_len 0 (length inputs))) inputs (length-map-range_with_len read 0 (length inputs))
      (λ k d below.
      let within : k < length inputs = let whole = length-map-range_with_len read 0 (length inputs) in omega (arith, below, whole) in
      get_or-map-range_with_len read 0 (length inputs) k k d within (omega arith) ∙ inputs_at inputs k within (all k within) ∙ get_or_default inputs k [] d within)

module _ (p : Program) (types : AreTypes p) (spec : ResolvedItem) (states inputs : List (List Value)) (b : Breaks p spec states inputs) (f : IsFaultlessRun p states inputs) where
  abbrev t : Trace
  t = run_trace p states inputs

  stepped : (i : ℕ) → i < length inputs → is_step p (at_time states i) (at_time inputs i) (at_time states (i + 1)) ≡ true
  stepped i below = b.run.steps i below

  each : (i : ℕ) → i < length states → (is_state p (at_time states i) ≡ true) × (meets_invariants p (at_time states i) ≡ true)
  each i below = of_run p states inputs b.run i below

  inputs_are : (i : ℕ) → i < length inputs → are_inputs p (at_time inputs i) ≡ true
  inputs_are i below = (step_parts p (at_time states i) (at_time inputs i) (at_time states (i + 1)) (stepped i below)).1

  counted : length (map (bindings_of (terms_of p) (state_columns p)) states) ≡ length states
  counted = length-map states (bindings_of (terms_of p) (state_columns p))

  told_states : states_told p t ≡ states
  told_states = states_again p types states (λ i within. (each i within).0)

  told_inputs : inputs_told p t ≡ inputs
  told_inputs =
      let m : length (map (bindings_of (terms_of p) (state_columns p)) states) - 1 ≡ length inputs = omega (arith, counted, b.run.long) in
      ap (λ n. map (read_at (terms_of p) (input_columns p) (given_rows (terms_of p) (input_columns p) inputs)) (range_with_len 0 n)) m ∙ inputs_again p types inputs inputs_are

  values_pass : (i : ℕ) → passes p spec t rule.Values i ≡ true
  values_pass i =
      and_from (state_fits p t i) (inputs_fit p t i)
      (elim (cases_lt i (length states)) [
        | inl below ↦ unless (ltb i (max 1 (length t.states))) (is_some (state_read p t i)) (ap (λ (o : Option (List Value)). is_some o) (states_back p types states i below (each i below).0))
        | inr past ↦ cond-false (ltb i (max 1 (length t.states))) (is_some (state_read p t i)) true (le-ltb i (max 1 (length t.states)) (omega (arith, counted, past, b.run.long)))
      ])
      (inputs_fitting p types inputs (length t.states) (counted ∙ b.run.long) inputs_are i)

  first_passes : (i : ℕ) → begins p states i ≡ true
  first_passes i =
      let s = at_time states 0 in
      unasked (eqb i 0) (begins_well p s) (λ e. and_from (is_first_state p s) (all_faultless First p s [] []) b.run.first f.first)

  inv_passes : (i : ℕ) → stays p states i ≡ true
  inv_passes i =
      let s = at_time states i in
      unasked (ltb i (length states)) (stays_well p s)
      (λ e. let below = ltb-true i (length states) e in and_from (meets_invariants p s) (all_faultless Always p s [] []) (each i below).1 (f.each i below))

  step_passes : (i : ℕ) → goes_on p states inputs i ≡ true
  step_passes i =
      unasked (ltb (i + 1) (length states)) (steps_well p (at_time states i) (at_time inputs i) (at_time states (i + 1)))
      (λ e.
      let below = ltb-true (i + 1) (length states) e in
      steps_so p (at_time states i) (at_time inputs i) (at_time states (i + 1)) (stepped i (omega (arith, below, b.run.long)))
      (f.steps i below) (f.each i (omega (arith, below))) (f.each (i + 1) below))

  spec_passes : (i : ℕ) → ends p spec states i ≡ true
  spec_passes i =
      let last : length states - 1 ≡ length inputs = omega (arith, b.run.long) in
      unasked (eqb i 0) (is_false (outcome_in (slots_of p) (at_time states (length states - 1)) spec.value))
      (λ e. ap (λ n. is_false (outcome_in (slots_of p) (at_time states n) spec.value)) last ∙ ap is_false b.broken)

  run_passes : (r : ReplayRule) (i : ℕ) → passes p spec t r i ≡ true
  run_passes rule.Values i = values_pass i
  run_passes rule.First i = subst (λ (ss : List (List Value)). begins p ss i ≡ true) (sym told_states) (first_passes i)
  run_passes rule.Inv i = subst (λ (ss : List (List Value)). stays p ss i ≡ true) (sym told_states) (inv_passes i)
  run_passes rule.Step i =
      subst (λ (us : List (List Value)). goes_on p (states_told p t) us i ≡ true) (sym told_inputs)
      (subst (λ (ss : List (List Value)). goes_on p ss inputs i ≡ true) (sym told_states) (step_passes i))
  run_passes rule.Loop i = refl
  run_passes rule.Fair i = refl
  run_passes rule.Spec i = subst (λ (ss : List (List Value)). ends p spec ss i ≡ true) (sym told_states) (spec_passes i)

pub broken_passes : (p : Program) → AreTypes p → (spec : ResolvedItem) (t : Trace) → ShowsBroken p spec t → (r : ReplayRule) (i : ℕ) → passes p spec t r i ≡ true
broken_passes p types spec t h r i = subst (λ (x : Trace). passes p spec x r i ≡ true) (sym h.told) (run_passes p types spec h.states h.inputs h.broken h.faultless r i)
