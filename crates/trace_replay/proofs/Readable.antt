-- The lines of the trace of a run are in form, if the names of the slots are.
use Rattle.std.proofs.Common.{◌≡◌, inl, inr, ℕ, zero, suc, ◌+◌, ◌-◌, ◌<◌, ◌≤◌, ◌^◌, max, Bool, true, ◌&&◌, List, [], ◌∷◌, ◌++◌, length, map, slice_get, Option, None, Some, refl, sym, subst, ap, ◌∙◌, arith}
use lib.Dec.{eqb}
use Rattle.std.specs.List.{flat_map, list_all, range_with_len, zip}
use Rattle.std.specs.Option.{option_map}
use Rattle.std.proofs.lemmas.Bool.{and_from, and_parts, cases_lt, lt-ltb}
use Rattle.std.proofs.lemmas.List.{length-map}
use Rattle.std.proofs.lemmas.List.Folds.{list_all-append}
use Rattle.std.proofs.lemmas.Option.{get_or_from_slice_get, slice_get-map, slice_get_within}
use Rattle.smv_tree.specs.declared.tree.Program.{Program}
use Rattle.smv_value.specs.declared.value.Value.{Value}
use Rattle.value_texts.specs.Told.{told_text}
use Rattle.smv_slots.specs.declared.slot.Slot.{Slot}
use Rattle.smv_slots.specs.Slots.{slots_of}
use Rattle.smv_meaning.specs.Lassos.{IsLasso, Lasso}
use Rattle.smv_meaning.specs.Runs.{IsRun, are_inputs, at_time, fits, in_type, input_slots, is_state, state_slots}
use Rattle.trace_replay.specs.declared.entry.Binding.{Binding}
use Rattle.trace_replay.specs.Forms.{is_name, is_value}
use Rattle.trace_replay.specs.Lassos.{lasso_trace}
use Rattle.trace_replay.specs.Lines.{entries_of, input_entries, loop_entries, moment_entries, moments, state_entries}
use Rattle.trace_replay.specs.Reading.{in_form, is_binding, is_small}
use Rattle.trace_replay.specs.Rows.{AreTypes, are_told, bindings_of, column_of, given_rows, has_form, input_columns, run_trace, state_columns, terms_of}
use Rattle.trace_replay.proofs.Broken.{first_parts, step_parts}
use Rattle.trace_replay.proofs.Cells.{among_types, terms_types}
use Rattle.trace_replay.proofs.OfForms.{typed_formed}
use Rattle.trace_replay.proofs.OfLines.{numbers_more}

all_numbers : {A : Type 0} (f : ℕ → List A) (q : A → Bool) (n : ℕ) → ((i : ℕ) → i < n → list_all q (f i) ≡ true) → list_all q (flat_map f (range_with_len 0 n)) ≡ true
all_numbers f q zero h = refl
all_numbers f q (suc n) h =
    ap (λ m. list_all q (flat_map f (range_with_len 0 m))) (let e : suc n ≡ n + 1 = omega arith in e)
    ∙ ap (list_all q) (numbers_more f n)
    ∙ list_all-append q (flat_map f (range_with_len 0 n)) (f n)
    ∙ and_from (list_all q (flat_map f (range_with_len 0 n))) (list_all q (f n)) (all_numbers f q n (λ i below. h i (omega (arith, below)))) (h n (omega arith))

module _ (p : Program) (types : AreTypes p) where
  row_formed : (slots : List Slot) (vs : List Value) → list_all (has_form (terms_of p)) (map (column_of p) slots) ≡ true → list_all (λ (pair : Slot × Value). in_type (slice_get (terms_of p).types pair.0.declared) pair.1) (zip slots vs) ≡ true
      → list_all is_binding (bindings_of (terms_of p) (map (column_of p) slots) vs) ≡ true
  row_formed [] vs named typed = refl
  row_formed (x ∷ slots) [] named typed = refl
  row_formed (x ∷ slots) (v ∷ vs) named typed =
      let names = (terms_of p).names in
      let declared = slice_get (terms_of p).types x.declared in
      let a = and_parts (has_form (terms_of p) (column_of p x)) (list_all (has_form (terms_of p)) (map (column_of p) slots)) named in
      let form = and_parts (is_name (column_of p x).name) (are_told names declared) a.0 in
      let b = and_parts (in_type (slice_get (terms_of p).types x.declared) v) (list_all (λ (pair : Slot × Value). in_type (slice_get (terms_of p).types pair.0.declared) pair.1) (zip slots vs)) typed in
      and_from (is_name (column_of p x).name && is_value (told_text names v)) (list_all is_binding (bindings_of (terms_of p) (map (column_of p) slots) vs))
      (and_from (is_name (column_of p x).name) (is_value (told_text names v)) form.0 (typed_formed names declared v (λ t is. among_types (terms_of p).types x.declared t (terms_types p types) is) form.1 b.0))
      (row_formed slots vs a.1 b.1)

  abbrev AllFit : List Slot → List (List Value) → Type 0
  AllFit slots rows = (k : ℕ) → k < length rows → fits (terms_of p).types slots (at_time rows k) ≡ true

  module _ (slots : List Slot) (named : list_all (has_form (terms_of p)) (map (column_of p) slots) ≡ true) where
    told_formed : (rows : List (List Value)) (i : ℕ) (o : Option (List Value)) (bs : List Binding) → AllFit slots rows → slice_get rows i ≡ o → option_map (bindings_of (terms_of p) (map (column_of p) slots)) o ≡ Some bs → list_all is_binding bs ≡ true
    told_formed rows i None bs fit here e = absurd (let never : ⊥ = cc in never)
    told_formed rows i (Some vs) bs fit here e =
        let within = slice_get_within rows i vs here in
        let same : at_time rows i ≡ vs = get_or_from_slice_get rows i vs [] here in
        let fits_here : fits (terms_of p).types slots vs ≡ true = ap (fits (terms_of p).types slots) (sym same) ∙ fit i within in
        let typed = (and_parts (eqb (length slots) (length vs)) (list_all (λ (pair : Slot × Value). in_type (slice_get (terms_of p).types pair.0.declared) pair.1) (zip slots vs)) fits_here).1 in
        let is : bindings_of (terms_of p) (map (column_of p) slots) vs ≡ bs = cc in
        subst (λ (l : List Binding). list_all is_binding l ≡ true) is (row_formed slots vs named typed)

    rows_formed : (rows : List (List Value)) (i : ℕ) (bs : List Binding) → AllFit slots rows → slice_get (map (bindings_of (terms_of p) (map (column_of p) slots)) rows) i ≡ Some bs → list_all is_binding bs ≡ true
    rows_formed rows i bs fit e = told_formed rows i (slice_get rows i) bs fit refl (sym (slice_get-map (bindings_of (terms_of p) (map (column_of p) slots)) rows i) ∙ e)

  given_formed : (slots : List Slot) → list_all (has_form (terms_of p)) (map (column_of p) slots) ≡ true → (rows : List (List Value)) (i : ℕ) (bs : List Binding) → AllFit slots rows
      → slice_get (given_rows (terms_of p) (map (column_of p) slots) rows) i ≡ Some bs → list_all is_binding bs ≡ true
  given_formed [] named rows i bs fit e = absurd (let never : ⊥ = cc in never)
  given_formed (x ∷ slots) named rows i bs fit e = rows_formed (x ∷ slots) named rows i bs fit e

  given_few : (slots : List Slot) (rows : List (List Value)) → length (given_rows (terms_of p) (map (column_of p) slots) rows) ≤ length rows
  given_few [] rows = omega arith
  given_few (x ∷ slots) rows = let long = length-map rows (bindings_of (terms_of p) (map (column_of p) (x ∷ slots))) in omega (arith, long)

  states_formed : list_all (has_form (terms_of p)) (state_columns p) ≡ true → (rows : List (List Value)) (i : ℕ) (bs : List Binding) → ((k : ℕ) → k < length rows → is_state p (at_time rows k) ≡ true)
      → slice_get (map (bindings_of (terms_of p) (state_columns p)) rows) i ≡ Some bs → list_all is_binding bs ≡ true
  unfolding state_columns terms_of
  states_formed named rows i bs fit e = rows_formed (state_slots (slots_of p)) named rows i bs fit e

  inputs_formed : list_all (has_form (terms_of p)) (input_columns p) ≡ true → (rows : List (List Value)) (i : ℕ) (bs : List Binding) → ((k : ℕ) → k < length rows → are_inputs p (at_time rows k) ≡ true)
      → slice_get (given_rows (terms_of p) (input_columns p) rows) i ≡ Some bs → list_all is_binding bs ≡ true
  unfolding input_columns terms_of
  inputs_formed named rows i bs fit e = given_formed (input_slots (slots_of p)) named rows i bs fit e

  inputs_few : (rows : List (List Value)) → length (given_rows (terms_of p) (input_columns p) rows) ≤ length rows
  unfolding input_columns terms_of
  inputs_few rows = given_few (input_slots (slots_of p)) rows

state_line : (i : ℕ) (o : Option (List Binding)) → is_small i ≡ true → ((bs : List Binding) → o ≡ Some bs → list_all is_binding bs ≡ true) → list_all in_form (state_entries i o) ≡ true
state_line i None small h = refl
state_line i (Some bs) small h = and_from (is_small i && list_all is_binding bs) true (and_from (is_small i) (list_all is_binding bs) small (h bs refl)) refl

input_line : (i : ℕ) (o : Option (List Binding)) → is_small i ≡ true → ((bs : List Binding) → o ≡ Some bs → list_all is_binding bs ≡ true) → list_all in_form (input_entries i o) ≡ true
input_line i None small h = refl
input_line i (Some bs) small h = and_from (is_small i && list_all is_binding bs) true (and_from (is_small i) (list_all is_binding bs) small (h bs refl)) refl

module _ (p : Program) (states inputs : List (List Value)) (run : IsRun p states inputs) where
  each : (i : ℕ) → i < length states → is_state p (at_time states i) ≡ true
  each zero below = (first_parts p (at_time states 0) run.first).0
  each (suc i) below =
      let parts = step_parts p (at_time states i) (at_time inputs i) (at_time states (i + 1)) (run.steps i (omega (arith, below, run.long))) in
      subst (λ k. is_state p (at_time states k) ≡ true) (let n : i + 1 ≡ suc i = omega arith in n) parts.2

  given : (i : ℕ) → i < length inputs → are_inputs p (at_time inputs i) ≡ true
  given i below = (step_parts p (at_time states i) (at_time inputs i) (at_time states (i + 1)) (run.steps i below)).1

  pub run_readable : (number : ℕ) → number < 2 ^ 64 → length states ≤ 2 ^ 64 → AreTypes p → list_all (has_form (terms_of p)) (state_columns p) ≡ true → list_all (has_form (terms_of p)) (input_columns p) ≡ true
      → list_all in_form (entries_of number (run_trace p states inputs)) ≡ true
  run_readable number small few types held_named given_named =
      let t = run_trace p states inputs in
      let counted = length-map states (bindings_of (terms_of p) (state_columns p)) in
      let given_few = inputs_few p types inputs in
      let lines : list_all in_form (moments t) ≡ true =
      all_numbers (moment_entries t) in_form (max (length t.states) (length t.inputs)) (λ i below.
      let i_small : is_small i ≡ true = lt-ltb i (2 ^ 64) (omega (arith, below, counted, given_few, few, run.long)) in
      list_all-append in_form (state_entries i (slice_get t.states i)) (input_entries i (slice_get t.inputs i))
      ∙ and_from (list_all in_form (state_entries i (slice_get t.states i))) (list_all in_form (input_entries i (slice_get t.inputs i)))
      (state_line i (slice_get t.states i) i_small (λ bs e. states_formed p types held_named states i bs each e))
      (input_line i (slice_get t.inputs i) i_small (λ bs e. inputs_formed p types given_named inputs i bs given e))) in
      and_from (is_small number) (list_all in_form (moments t ++ [])) (lt-ltb number (2 ^ 64) small)
      (list_all-append in_form (moments t) [] ∙ and_from (list_all in_form (moments t)) true lines refl)

module _ (p : Program) (w : Lasso) (is : IsLasso p w) where
  lasso_each : (i : ℕ) → i < length w.states → is_state p (at_time w.states i) ≡ true
  lasso_each zero below = (first_parts p (at_time w.states 0) is.first).0
  lasso_each (suc i) below =
      let parts = step_parts p (at_time w.states i) (at_time w.inputs i) (at_time w.states (i + 1)) (is.steps i (omega (arith, below))) in
      subst (λ k. is_state p (at_time w.states k) ≡ true) (let n : i + 1 ≡ suc i = omega arith in n) parts.2

  lasso_given : (i : ℕ) → i < length w.inputs → are_inputs p (at_time w.inputs i) ≡ true
  lasso_given i below = elim (cases_lt (i + 1) (length w.states)) [
    | inl b ↦ (step_parts p (at_time w.states i) (at_time w.inputs i) (at_time w.states (i + 1)) (is.steps i b)).1
    | inr c ↦
        let e : length w.states - 1 ≡ i = omega (arith, c, below, is.long) in
        subst (λ k. are_inputs p (at_time w.inputs k) ≡ true) e
        (step_parts p (at_time w.states (length w.states - 1)) (at_time w.inputs (length w.states - 1)) (at_time w.states w.start) is.back).1
  ]

  pub lasso_readable : (number : ℕ) → number < 2 ^ 64 → length w.states ≤ 2 ^ 64 → AreTypes p → list_all (has_form (terms_of p)) (state_columns p) ≡ true → list_all (has_form (terms_of p)) (input_columns p) ≡ true
      → list_all in_form (entries_of number (lasso_trace p w)) ≡ true
  lasso_readable number small few types held_named given_named =
      let t = lasso_trace p w in
      let counted = length-map w.states (bindings_of (terms_of p) (state_columns p)) in
      let given_few = inputs_few p types w.inputs in
      let lines : list_all in_form (moments t) ≡ true =
      all_numbers (moment_entries t) in_form (max (length t.states) (length t.inputs)) (λ i below.
      let i_small : is_small i ≡ true = lt-ltb i (2 ^ 64) (omega (arith, below, counted, given_few, few, is.long)) in
      list_all-append in_form (state_entries i (slice_get t.states i)) (input_entries i (slice_get t.inputs i))
      ∙ and_from (list_all in_form (state_entries i (slice_get t.states i))) (list_all in_form (input_entries i (slice_get t.inputs i)))
      (state_line i (slice_get t.states i) i_small (λ bs e. states_formed p types held_named w.states i bs lasso_each e))
      (input_line i (slice_get t.inputs i) i_small (λ bs e. inputs_formed p types given_named w.inputs i bs lasso_given e))) in
      and_from (is_small number) (list_all in_form (moments t ++ loop_entries (Some w.start))) (lt-ltb number (2 ^ 64) small)
      (list_all-append in_form (moments t) (loop_entries (Some w.start))
      ∙ and_from (list_all in_form (moments t)) (list_all in_form (loop_entries (Some w.start))) lines
      (and_from (is_small w.start) true (lt-ltb w.start (2 ^ 64) (omega (arith, is.inside, few))) refl))
