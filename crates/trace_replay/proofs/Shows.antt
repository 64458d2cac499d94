-- A trace is accepted just where it is that of a run that breaks the specification.
use Rattle.std.proofs.Common.{◌≡◌, inl, inr, ℕ, ◌+◌, ◌-◌, ◌<◌, ◌≤◌, max, Bool, true, false, not, cond, ◌&&◌, ◌||◌, List, [], ◌∷◌, length, map, get_or, Option, None, Some, refl, sym, ap, ◌∙◌, arith, unwrap_or, slice_get}
use lib.Dec.{eqb, leb, ltb}
use Rattle.std.specs.List.{range_with_len}
use Rattle.std.specs.Option.{is_some}
use Rattle.std.proofs.lemmas.Bool.{and_parts, cases_lt, cond-false, cond-true, eq-eqb, le-ltb, leb-true, lt-ltb}
use Rattle.std.proofs.lemmas.List.{get_or_default, length-map, same_lists}
use Rattle.std.proofs.lemmas.List.FromFn.{get_or-map-range_with_len, length-map-range_with_len}
use Rattle.std.proofs.lemmas.Option.{slice_get-get_or, slice_get_within}
use Rattle.std.proofs.Math.ListN.{get_or-map}
use Rattle.smv_tree.specs.declared.tree.Program.{Program}
use Rattle.smv_value.specs.declared.value.Value.{Value}
use Rattle.smv_value.specs.declared.value.Value.TheVariants as value
use Rattle.smv_resolve.specs.Items.{ResolvedItem}
use Rattle.smv_slots.specs.Slots.{slots_of}
use Rattle.smv_meaning.specs.declared.outcome.Evaluation.{Evaluation}
use Rattle.smv_meaning.specs.declared.outcome.Evaluation.TheVariants.{Fault, Nothing, Values}
use Rattle.smv_meaning.specs.Runs.{IsRun, at_time, is_first_state, is_step, meets_invariants}
use Rattle.smv_meaning.specs.Outcomes.{one}
use Rattle.smv_meaning.specs.Values.{outcome_in}
use Rattle.trace_replay.specs.declared.columns.Column.{Column}
use Rattle.trace_replay.specs.declared.entry.Binding.{Binding}
use Rattle.trace_replay.specs.declared.rule.ReplayRule.{ReplayRule}
use Rattle.trace_replay.specs.declared.rule.ReplayRule.TheVariants as rule
use Rattle.trace_replay.specs.declared.trace.Trace.{Trace}
use Rattle.trace_replay.specs.declared.faultless.Asked.TheVariants.{First, Always, Step}
use Rattle.trace_replay.specs.Faultless.{IsFaultlessRun, all_faultless, begins_well, stays_well, steps_well}
use Rattle.trace_replay.specs.Lassos.{due_each}
use Rattle.trace_replay.specs.Rows.{Terms, bindings_of, given_rows, input_columns, inputs_read, inputs_told, line_read, row_read, run_trace, state_columns, state_read, states_told, terms_of}
use Rattle.trace_replay.specs.Tests.{ShowsBroken, due_beside, inputs_fit, is_false, passes, starts_at, state_fits}
use Rattle.trace_replay.proofs.Cells.{row_told}
use Rattle.trace_replay.proofs.OfTelling.{is_there, line_row, some_state}

-- a test that is asked at all
asked : (a b : Bool) → (not a || b) ≡ true → a ≡ true → b ≡ true
asked true b h e = h
asked false b h e = absurd (let never : ⊥ = cc in never)

pub unasked : (a b : Bool) → (a ≡ true → b ≡ true) → (not a || b) ≡ true
unasked true b h = h refl
unasked false b h = refl

pub at_some : (a x : Bool) → cond a x true ≡ true → a ≡ true → x ≡ true
at_some true x h e = h
at_some false x h e = absurd (let never : ⊥ = cc in never)

pub unless : (b x : Bool) → x ≡ true → cond b x true ≡ true
unless true x h = h
unless false x h = refl

none_of : (o : Option ℕ) → ((i : ℕ) → not (starts_at o i) ≡ true) → o ≡ None
none_of None h = refl
none_of (Some n) h = absurd (let e : not (eqb n n) ≡ true = h n in let f : not (eqb n n) ≡ false = ap not (eq-eqb n n refl) in let never : ⊥ = cc in never)

no_rows : {A : Type 0} (xs : List A) → length xs ≤ 0 → xs ≡ []
no_rows [] h = refl
no_rows (x ∷ xs) h = absurd (let never : ⊥ = omega (arith, h) in never)

false_is : (o : Evaluation) → is_false o ≡ true → o ≡ one (value.Bool false)
false_is Nothing h = absurd (let never : ⊥ = cc in never)
false_is (Values []) h = absurd (let never : ⊥ = cc in never)
false_is (Values (value.Bool true ∷ [])) h = absurd (let never : ⊥ = cc in never)
false_is (Values (value.Bool false ∷ [])) h = refl
false_is (Values (value.Int z ∷ [])) h = absurd (let never : ⊥ = cc in never)
false_is (Values (value.Sym n ∷ [])) h = absurd (let never : ⊥ = cc in never)
false_is (Values (value.Word s w b ∷ [])) h = absurd (let never : ⊥ = cc in never)
false_is (Values (v ∷ w ∷ vs)) h = absurd (let never : ⊥ = cc in never)
false_is (Fault f place) h = absurd (let never : ⊥ = cc in never)

-- an initial state and a step, and that nothing faults which is asked of them

pub well_begun : (p : Program) (s : List Value) → begins_well p s ≡ true → (is_first_state p s ≡ true) × (all_faultless First p s [] [] ≡ true)
well_begun p s h = and_parts (is_first_state p s) (all_faultless First p s [] []) h

abbrev pub Stepped : Program → List Value → List Value → List Value → Type 0
Stepped p s u t = (is_step p s u t ≡ true) × (all_faultless Step p s u t ≡ true)

pub well_stepped : (p : Program) (s u t : List Value) → steps_well p s u t ≡ true → Stepped p s u t
well_stepped p s u t h =
    let ends : Bool = all_faultless Always p s [] [] && all_faultless Always p t [] [] in
    let both = and_parts (is_step p s u t) (all_faultless Step p s u t && ends) h in
    (both.0, (and_parts (all_faultless Step p s u t) ends both.1).0)

-- whether the inputs of a number are told as they should be, by the columns, where so many are due: beside the states
-- of a run, and beside those of a lasso
abbrev pub fits_due : Terms → List Column → List (List Binding) → ℕ → ℕ → Bool
fits_due terms cs rows m i = cond (ltb i m) (is_some (line_read terms cs (slice_get rows i))) (cond (eqb i m) (leb (length rows) i) true)

abbrev pub fit : Terms → List Column → List (List Binding) → ℕ → ℕ → Bool
fit terms cs rows n i = fits_due terms cs rows (due_beside cs n) i

abbrev pub each_fit : Terms → List Column → List (List Binding) → ℕ → ℕ → Bool
each_fit terms cs rows n i = fits_due terms cs rows (due_each cs n) i

abbrev pub read_at : Terms → List Column → List (List Binding) → ℕ → List Value
read_at terms cs rows i = unwrap_or (line_read terms cs (slice_get rows i)) []

-- From a trace that passes to a run.
module _ (terms : Terms) (cs : List Column) where
  abbrev told : List Binding → List Value
  told bs = unwrap_or (row_read terms cs bs) []

  some_equal : (xs ys : List Binding) → Some xs ≡ Some ys → xs ≡ ys
  some_equal xs ys e = cc

  line_back : (o : Option (List Binding)) (bs : List Binding) → o ≡ Some bs → is_some (line_read terms cs o) ≡ true → bindings_of terms cs (unwrap_or (line_read terms cs o) []) ≡ bs
  line_back o bs here h =
      let value = is_there (line_read terms cs o) h in
      let row = line_row terms cs o value.0 value.1 in
      ap (bindings_of terms cs) (ap (λ (x : Option (List Value)). unwrap_or x []) value.1) ∙ row_told terms cs row.0 value.0 row.2 ∙ some_equal row.0 bs (sym row.1 ∙ here)

  -- rows that all tell values are those of the values
  pub rows_back : (rows : List (List Binding)) → ((i : ℕ) → i < length rows → is_some (line_read terms cs (slice_get rows i)) ≡ true) → map (bindings_of terms cs) (map told rows) ≡ rows
  rows_back rows h = same_lists (map (bindings_of terms cs) (map told rows)) rows
      (length-map (map told rows) (bindings_of terms cs) ∙ length-map rows told)
      (λ k d below.
      let within : k < length rows = omega (arith, below, length-map (map told rows) (bindings_of terms cs), length-map rows told) in
      let here : slice_get rows k ≡ Some (get_or rows k d) = slice_get-get_or rows k d within in
      let is : is_some (line_read terms cs (Some (get_or rows k d))) ≡ true = ap (λ (o : Option (List Binding)). is_some (line_read terms cs o)) (sym here) ∙ h k within in
      get_or_default (map (bindings_of terms cs) (map told rows)) k d (bindings_of terms cs (told d)) below
      ∙ get_or-map (bindings_of terms cs) (map told rows) k (told d) ∙ ap (bindings_of terms cs) (get_or-map told rows k d)
      ∙ line_back (Some (get_or rows k d)) (get_or rows k d) refl is)

  -- the same of the rows at numbers
  numbers_back : (rows : List (List Binding)) (m : ℕ) → length rows ≡ m → ((i : ℕ) → i < m → is_some (line_read terms cs (slice_get rows i)) ≡ true)
      → map (bindings_of terms cs) (map (read_at terms cs rows) (range_with_len 0 m)) ≡ rows
  numbers_back rows m long h =
      let len = length-map-range_with_len (read_at terms cs rows) 0 m in
      let both = length-map (map (read_at terms cs rows) (range_with_len 0 m)) (bindings_of terms cs) in
      same_lists (map (bindings_of terms cs) (map (read_at terms cs rows) (range_with_len 0 m))) rows (both ∙ len ∙ sym long)
      (λ k d below.
      let within : k < m = omega (arith, below, both, len) in
      let inside : k < length rows = omega (arith, within, long) in
      let here : slice_get rows k ≡ Some (get_or rows k d) = slice_get-get_or rows k d inside in
      get_or_default (map (bindings_of terms cs) (map (read_at terms cs rows) (range_with_len 0 m))) k d (bindings_of terms cs []) below
      ∙ get_or-map (bindings_of terms cs) (map (read_at terms cs rows) (range_with_len 0 m)) k []
      ∙ ap (bindings_of terms cs) (get_or-map-range_with_len (read_at terms cs rows) 0 m k k [] within (omega arith))
      ∙ line_back (slice_get rows k) (get_or rows k d) here (h k within))

-- rows that all tell values, as many as are due
due_back : (terms : Terms) (cs : List Column) (rows : List (List Binding)) (m : ℕ) → ((i : ℕ) → fits_due terms cs rows m i ≡ true) → map (bindings_of terms cs) (map (read_at terms cs rows) (range_with_len 0 m)) ≡ rows
due_back terms cs rows m h =
    let most : length rows ≤ m =
    leb-true (length rows) m
    (sym (cond-false (ltb m m) (is_some (line_read terms cs (slice_get rows m))) _ (le-ltb m m (omega arith))
    ∙ cond-true (eqb m m) (leb (length rows) m) true (eq-eqb m m refl)) ∙ h m) in
    let each : (i : ℕ) → i < m → is_some (line_read terms cs (slice_get rows i)) ≡ true =
    λ i below. sym (cond-true (ltb i m) (is_some (line_read terms cs (slice_get rows i))) _ (lt-ltb i m below)) ∙ h i in
    let least : m ≤ length rows = elim (cases_lt (length rows) m) [
      | inl short ↦
          let value = is_there (line_read terms cs (slice_get rows (length rows))) (each (length rows) short) in
          let row = line_row terms cs (slice_get rows (length rows)) value.0 value.1 in
          let within : length rows < length rows = slice_get_within rows (length rows) row.0 row.1 in
          absurd (let never : ⊥ = omega (arith, within) in never)
      | inr enough ↦ enough
    ] in
    numbers_back terms cs rows m (omega (arith, most, least)) each

inputs_back : (terms : Terms) (cs : List Column) (rows : List (List Binding)) (n : ℕ) → ((i : ℕ) → fit terms cs rows n i ≡ true) → given_rows terms cs (map (read_at terms cs rows) (range_with_len 0 (n - 1))) ≡ rows
inputs_back terms [] rows n h = sym (no_rows rows (leb-true (length rows) 0 (h 0)))
inputs_back terms (c ∷ cs) rows n h = due_back terms (c ∷ cs) rows (n - 1) h

-- the same beside the states of a lasso
pub each_inputs_back : (terms : Terms) (cs : List Column) (rows : List (List Binding)) (n : ℕ) → ((i : ℕ) → each_fit terms cs rows n i ≡ true) → given_rows terms cs (map (read_at terms cs rows) (range_with_len 0 n)) ≡ rows
each_inputs_back terms [] rows n h = sym (no_rows rows (leb-true (length rows) 0 (h 0)))
each_inputs_back terms (c ∷ cs) rows n h = due_back terms (c ∷ cs) rows n h

module _ (p : Program) (spec : ResolvedItem) (t : Trace) (all : (r : ReplayRule) (i : ℕ) → passes p spec t r i ≡ true) where
  some : 0 < length t.states
  some = some_state p t (all rule.Values 0)

  state_is : (i : ℕ) → i < length t.states → is_some (line_read (terms_of p) (state_columns p) (slice_get t.states i)) ≡ true
  state_is i below =
      let both = and_parts (state_fits p t i) (inputs_fit p t i) (all rule.Values i) in
      at_some (ltb i (max 1 (length t.states))) (is_some (state_read p t i)) both.0 (lt-ltb i (max 1 (length t.states)) (omega (arith, below)))

  states_back : map (bindings_of (terms_of p) (state_columns p)) (states_told p t) ≡ t.states
  states_back = rows_back (terms_of p) (state_columns p) t.states state_is

  given_back : given_rows (terms_of p) (input_columns p) (inputs_told p t) ≡ t.inputs
  given_back = inputs_back (terms_of p) (input_columns p) t.inputs (length t.states) (λ i. (and_parts (state_fits p t i) (inputs_fit p t i) (all rule.Values i)).1)

  told_as : t ≡ run_trace p (states_told p t) (inputs_told p t)
  told_as =
      let made : List (List Binding) → List (List Binding) → Option ℕ → Trace = λ a b c. record { states = a; inputs = b; start = c } in
      ap (λ (a : List (List Binding)). made a t.inputs t.start) (sym states_back)
      ∙ ap (λ (b : List (List Binding)). made (map (bindings_of (terms_of p) (state_columns p)) (states_told p t)) b t.start) (sym given_back)
      ∙ ap (λ (c : Option ℕ). made (map (bindings_of (terms_of p) (state_columns p)) (states_told p t)) (given_rows (terms_of p) (input_columns p) (inputs_told p t)) c) (none_of t.start (all rule.Loop))

  long : length (states_told p t) ≡ length (inputs_told p t) + 1
  long =
      let a : length (states_told p t) ≡ length t.states = length-map t.states (told (terms_of p) (state_columns p)) in
      let b : length (inputs_told p t) ≡ length t.states - 1 = length-map-range_with_len (λ (i : ℕ). unwrap_or (inputs_read p t i) []) 0 (length t.states - 1) in
      let c = some in
      omega (arith, a, b, c)

  begun : (is_first_state p (at_time (states_told p t) 0) ≡ true) × (all_faultless First p (at_time (states_told p t) 0) [] [] ≡ true)
  begun = well_begun p (at_time (states_told p t) 0) (all rule.First 0)

  stepped : (i : ℕ) → i + 1 < length (states_told p t) → Stepped p (at_time (states_told p t) i) (at_time (inputs_told p t) i) (at_time (states_told p t) (i + 1))
  stepped i below =
      well_stepped p (at_time (states_told p t) i) (at_time (inputs_told p t) i) (at_time (states_told p t) (i + 1))
      (asked (ltb (i + 1) (length (states_told p t))) (steps_well p (at_time (states_told p t) i) (at_time (inputs_told p t) i) (at_time (states_told p t) (i + 1)))
      (all rule.Step i) (lt-ltb (i + 1) (length (states_told p t)) below))

  run : IsRun p (states_told p t) (inputs_told p t)
  run = record { long = long; first = begun.0; steps = λ i below. (stepped i (omega (arith, below, long))).0 }

  faultless : IsFaultlessRun p (states_told p t) (inputs_told p t)
  faultless = record {
    first = begun.1;
    each = λ i below.
        (and_parts (meets_invariants p (at_time (states_told p t) i)) (all_faultless Always p (at_time (states_told p t) i) [] [])
        (asked (ltb i (length (states_told p t))) (stays_well p (at_time (states_told p t) i)) (all rule.Inv i) (lt-ltb i (length (states_told p t)) below))).1;
    steps = λ i below. (stepped i below).1;
  }

  pub shows : ShowsBroken p spec t
  shows = record {
    states = states_told p t;
    inputs = inputs_told p t;
    told = told_as;
    faultless = faultless;
    broken = record {
      run = run;
      broken =
          let last : length (states_told p t) - 1 ≡ length (inputs_told p t) = omega (arith, long) in
          false_is (outcome_in (slots_of p) (at_time (states_told p t) (length (inputs_told p t))) spec.value)
          (ap (λ n. is_false (outcome_in (slots_of p) (at_time (states_told p t) n) spec.value)) (sym last) ∙ all rule.Spec 0);
    };
  }
