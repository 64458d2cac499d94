-- A trace is accepted just where it is that of a lasso that violates the specification.
use Rattle.std.proofs.Common.{◌≡◌, inl, inr, ℕ, ◌+◌, ◌-◌, ◌<◌, max, Bool, true, false, List, [], length, map, drop, get_or, Option, None, Some, refl, sym, subst, ap, ◌∙◌, arith, unwrap_or, slice_get}
use lib.Dec.{eqb, ltb}
use Rattle.std.specs.List.{Contains, range_with_len}
use Rattle.std.specs.Option.{is_some}
use Rattle.std.proofs.lemmas.Bool.{and_from, and_parts, cases_lt, cond-false, le-ltb, lt-ltb, ltb-true}
use Rattle.std.proofs.lemmas.List.{get_or-drop, length-drop, length-map}
use Rattle.std.proofs.lemmas.List.Elements.{All-contains_itself, All-filter, filter_passes}
use Rattle.std.proofs.lemmas.List.Folds.{list_any_at}
use Rattle.std.proofs.lemmas.Option.{get_or_from_slice_get, slice_get_within}
use Rattle.smv_tree.specs.declared.tree.Program.{Program}
use Rattle.smv_tree.specs.declared.tree.ConstraintKind.TheVariants as asked
use Rattle.smv_value.specs.declared.value.Value.{Value}
use Rattle.smv_resolve.specs.declared.item.ItemKind.{ItemKind}
use Rattle.smv_resolve.specs.declared.item.ItemKind.TheVariants as item
use Rattle.smv_resolve.specs.Items.{ResolvedItem}
use Rattle.smv_layout.specs.Layout.{items_of}
use Rattle.smv_slots.specs.Slots.{slots_of}
use Rattle.smv_meaning.specs.Lassos.{IsLasso, Lasso, Violates}
use Rattle.smv_meaning.specs.Runs.{are_inputs, at_time, is_first_state, is_state, is_true, meets_invariants}
use Rattle.smv_meaning.specs.Values.{outcome_in}
use Rattle.trace_replay.specs.declared.entry.Binding.{Binding}
use Rattle.trace_replay.specs.declared.rule.ReplayRule.{ReplayRule}
use Rattle.trace_replay.specs.declared.rule.ReplayRule.TheVariants as rule
use Rattle.trace_replay.specs.declared.trace.Trace.{Trace}
use Rattle.trace_replay.specs.declared.faultless.Asked.TheVariants.{First, Always}
use Rattle.trace_replay.specs.Faultless.{IsFaultlessLasso, all_faultless, begins_well, stays_well, steps_well}
use Rattle.trace_replay.specs.Lassos.{IsFalseOn, LassoPasses, ShowsViolated, each_input_fits, each_input_told, each_value_fits, goes_back, is_fair, is_justice, is_loop, is_met, justices_of, lasso_told, lasso_trace}
use Rattle.trace_replay.specs.Rows.{AreTypes, bindings_of, given_rows, input_columns, line_read, state_columns, state_read, states_told, terms_of}
use Rattle.trace_replay.specs.Tests.{begins, goes_on, state_fits, stays}
use Rattle.trace_replay.proofs.Broken.{each_inputs_fitting, inputs_again, states_again, states_back, step_parts, steps_so}
use Rattle.trace_replay.proofs.OfLassos.{faultless, violates}
use Rattle.trace_replay.proofs.Shows.{at_some, each_fit, each_inputs_back, read_at, rows_back, unasked, unless}

kind_is : (k : ItemKind) → is_justice k ≡ true → k ≡ item.Constraint asked.Justice
kind_is (item.Constraint asked.Justice) h = refl
kind_is (item.Constraint asked.Init) h = absurd (let never : ⊥ = cc in never)
kind_is (item.Constraint asked.Invar) h = absurd (let never : ⊥ = cc in never)
kind_is (item.Constraint asked.Trans) h = absurd (let never : ⊥ = cc in never)
kind_is (item.Assignment kind) h = absurd (let never : ⊥ = cc in never)
kind_is (item.Specification kind) h = absurd (let never : ⊥ = cc in never)

-- What is known of the states of a lasso, and of their inputs.
module _ (p : Program) (w : Lasso) (lasso : IsLasso p w) where
  -- what a step from a state asks of the state and of its inputs
  abbrev Typed : ℕ → Type 0
  Typed i = (is_state p (at_time w.states i) ≡ true) × (are_inputs p (at_time w.inputs i) ≡ true) × (meets_invariants p (at_time w.states i) ≡ true)

  pub of_lasso : (i : ℕ) → i < length w.states → Typed i
  of_lasso i lt =
      let states = w.states in
      let inputs = w.inputs in
      elim (cases_lt (i + 1) (length states)) [
        | inl more ↦ let parts = step_parts p (at_time states i) (at_time inputs i) (at_time states (i + 1)) (lasso.steps i more) in (parts.0, parts.1, parts.3)
        | inr last ↦
            let e : length states - 1 ≡ i = omega (arith, lt, last) in
            let parts = step_parts p (at_time states (length states - 1)) (at_time inputs (length states - 1)) (at_time states w.start) lasso.back in
            subst Typed e (parts.0, parts.1, parts.3)
      ]

-- From a lasso to a trace that passes.
module _ (p : Program) (types : AreTypes p) (spec : ResolvedItem) (w : Lasso) (v : Violates p spec w) (f : IsFaultlessLasso p spec w) where
  abbrev t : Trace
  t = lasso_trace p w

  abbrev states : List (List Value)
  states = w.states

  abbrev inputs : List (List Value)
  inputs = w.inputs

  typed : (i : ℕ) → i < length states → (is_state p (at_time states i) ≡ true) × (are_inputs p (at_time inputs i) ≡ true) × (meets_invariants p (at_time states i) ≡ true)
  typed i lt = of_lasso p w v.lasso.lasso i lt

  inputs_are : (i : ℕ) → i < length inputs → are_inputs p (at_time inputs i) ≡ true
  inputs_are i lt = (typed i (omega (arith, lt, v.lasso.lasso.long))).1

  counted : length t.states ≡ length states
  counted = length-map states (bindings_of (terms_of p) (state_columns p))

  told_inputs : each_input_told p t ≡ inputs
  told_inputs =
      let long : length t.states ≡ length inputs = counted ∙ v.lasso.lasso.long in
      ap (λ n. map (read_at (terms_of p) (input_columns p) (given_rows (terms_of p) (input_columns p) inputs)) (range_with_len 0 n)) long ∙ inputs_again p types inputs inputs_are

  told_is : lasso_told p t ≡ w
  told_is =
      ap (λ (ss : List (List Value)). let u : Lasso = record { states = ss; inputs = each_input_told p t; start = w.start } in u) (states_again p types states (λ i lt. (typed i lt).0))
      ∙ ap (λ (us : List (List Value)). let u : Lasso = record { states = states; inputs = us; start = w.start } in u) told_inputs

  values_pass : (i : ℕ) → each_value_fits p t i ≡ true
  values_pass i =
      and_from (state_fits p t i) (each_input_fits p t i)
      (elim (cases_lt i (length states)) [
        | inl below ↦ unless (ltb i (max 1 (length t.states))) (is_some (state_read p t i)) (ap (λ (o : Option (List Value)). is_some o) (states_back p types states i below (typed i below).0))
        | inr past ↦
            let some = v.lasso.lasso.inside in
            cond-false (ltb i (max 1 (length t.states))) (is_some (state_read p t i)) true (le-ltb i (max 1 (length t.states)) (omega (arith, counted, past, some)))
      ])
      (let long : length inputs ≡ length t.states = sym (counted ∙ v.lasso.lasso.long) in
      subst (λ n. each_fit (terms_of p) (input_columns p) (given_rows (terms_of p) (input_columns p) inputs) n i ≡ true) long (each_inputs_fitting p types inputs inputs_are i))

  first_passes : (i : ℕ) → begins p states i ≡ true
  first_passes i =
      let s = at_time states 0 in
      unasked (eqb i 0) (begins_well p s) (λ e. and_from (is_first_state p s) (all_faultless First p s [] []) v.lasso.lasso.first f.run.first)

  inv_passes : (i : ℕ) → stays p states i ≡ true
  inv_passes i =
      let s = at_time states i in
      unasked (ltb i (length states)) (stays_well p s)
      (λ e. let below = ltb-true i (length states) e in and_from (meets_invariants p s) (all_faultless Always p s [] []) (typed i below).2 (f.run.each i below))

  step_passes : (i : ℕ) → goes_on p states inputs i ≡ true
  step_passes i =
      unasked (ltb (i + 1) (length states)) (steps_well p (at_time states i) (at_time inputs i) (at_time states (i + 1)))
      (λ e.
      let below = ltb-true (i + 1) (length states) e in
      steps_so p (at_time states i) (at_time inputs i) (at_time states (i + 1)) (v.lasso.lasso.steps i below)
      (f.run.steps i below) (f.run.each i (omega (arith, below))) (f.run.each (i + 1) below))

  loop_passes : (i : ℕ) → goes_back p states inputs (Some w.start) i ≡ true
  loop_passes i =
      let last = length states - 1 in
      let inside = v.lasso.lasso.inside in
      unasked (eqb i w.start) (is_loop p states inputs w.start)
      (λ e. and_from (ltb w.start (length states)) (steps_well p (at_time states last) (at_time inputs last) (at_time states w.start)) (lt-ltb w.start (length states) inside)
      (steps_so p (at_time states last) (at_time inputs last) (at_time states w.start) v.lasso.lasso.back
      f.back (f.run.each last (omega (arith, inside))) (f.run.each w.start inside)))

  met : (i : ℕ) (o : Option ResolvedItem) → slice_get (justices_of p) i ≡ o → is_met (slots_of p) (drop w.start states) o ≡ true
  met i None e = refl
  met i (Some x) e =
      let test : ResolvedItem → Bool = λ y. is_justice y.kind in
      let among : i < length (justices_of p) = slice_get_within (justices_of p) i x e in
      let is : get_or (justices_of p) i x ≡ x = get_or_from_slice_get (justices_of p) i x x e in
      let within : Contains (items_of p) x = subst (Contains (items_of p)) is (All-filter test (Contains (items_of p)) (items_of p) (All-contains_itself (items_of p)) i x among) in
      let kind = kind_is x.kind (subst (λ (y : ResolvedItem). is_justice y.kind ≡ true) is (filter_passes test (items_of p) i x among)) in
      let found = v.lasso.fair x within kind in
      let e : w.start + (found.0 - w.start) ≡ found.0 = omega (arith, found.1) in
      list_any_at (λ (s : List Value). is_true (outcome_in (slots_of p) s x.value)) (drop w.start states) (found.0 - w.start) []
      (omega (arith, length-drop w.start states, found.1, found.2))
      (ap (λ (s : List Value). is_true (outcome_in (slots_of p) s x.value)) (get_or-drop w.start states (found.0 - w.start) [] ∙ ap (at_time states) e)
      ∙ ap is_true found.3)

  -- the tests of what the trace tells
  abbrev Passes : Lasso → ReplayRule → ℕ → Type 0
  Passes u rule.Values i = each_value_fits p t i ≡ true
  Passes u rule.First i = begins p u.states i ≡ true
  Passes u rule.Inv i = stays p u.states i ≡ true
  Passes u rule.Step i = goes_on p u.states u.inputs i ≡ true
  Passes u rule.Loop i = goes_back p u.states u.inputs (Some u.start) i ≡ true
  Passes u rule.Fair i = is_fair p (drop u.start u.states) i ≡ true
  Passes u rule.Spec i = i ≡ 0 → IsFalseOn p spec u

  passes : (r : ReplayRule) (i : ℕ) → Passes w r i
  passes rule.Values i = values_pass i
  passes rule.First i = first_passes i
  passes rule.Inv i = inv_passes i
  passes rule.Step i = step_passes i
  passes rule.Loop i = loop_passes i
  passes rule.Fair i = met i (slice_get (justices_of p) i) refl
  passes rule.Spec i = λ e. (v.false, f.formula)

  as_told : (r : ReplayRule) (i : ℕ) → Passes (lasso_told p t) r i → LassoPasses p spec t r i
  as_told rule.Values i h = h
  as_told rule.First i h = h
  as_told rule.Inv i h = h
  as_told rule.Step i h = h
  as_told rule.Loop i h = h
  as_told rule.Fair i h = h
  as_told rule.Spec i h = h

  lasso_passes : (r : ReplayRule) (i : ℕ) → LassoPasses p spec t r i
  lasso_passes r i = as_told r i (subst (λ (u : Lasso). Passes u r i) (sym told_is) (passes r i))

pub violated_passes : (p : Program) → AreTypes p → (spec : ResolvedItem) (t : Trace) → ShowsViolated p spec t → (r : ReplayRule) (i : ℕ) → LassoPasses p spec t r i
violated_passes p types spec t h r i = subst (λ (x : Trace). LassoPasses p spec x r i) (sym h.told) (lasso_passes p types spec h.lasso h.violates h.faultless r i)

-- From a trace that passes to a lasso.
module _ (p : Program) (spec : ResolvedItem) (t : Trace) (all : (r : ReplayRule) (i : ℕ) → LassoPasses p spec t r i) where
  parts : (i : ℕ) → (state_fits p t i ≡ true) × (each_input_fits p t i ≡ true)
  parts i = and_parts (state_fits p t i) (each_input_fits p t i) (all rule.Values i)

  state_is : (i : ℕ) → i < length t.states → is_some (line_read (terms_of p) (state_columns p) (slice_get t.states i)) ≡ true
  state_is i below = at_some (ltb i (max 1 (length t.states))) (is_some (state_read p t i)) (parts i).0 (lt-ltb i (max 1 (length t.states)) (omega (arith, below)))

  states_are : map (bindings_of (terms_of p) (state_columns p)) (states_told p t) ≡ t.states
  states_are = rows_back (terms_of p) (state_columns p) t.states state_is

  given_are : given_rows (terms_of p) (input_columns p) (each_input_told p t) ≡ t.inputs
  given_are = each_inputs_back (terms_of p) (input_columns p) t.inputs (length t.states) (λ i. (parts i).1)

  start_is : (o : Option ℕ) → ((i : ℕ) → goes_back p (states_told p t) (each_input_told p t) o i ≡ true) → o ≡ Some (unwrap_or o 0)
  start_is None h = absurd (let e : false ≡ true = h 0 in let never : ⊥ = cc in never)
  start_is (Some n) h = refl

  told_as : t ≡ lasso_trace p (lasso_told p t)
  told_as =
      let made : List (List Binding) → List (List Binding) → Option ℕ → Trace = λ a b c. record { states = a; inputs = b; start = c } in
      ap (λ (a : List (List Binding)). made a t.inputs t.start) (sym states_are)
      ∙ ap (λ (b : List (List Binding)). made (map (bindings_of (terms_of p) (state_columns p)) (states_told p t)) b t.start) (sym given_are)
      ∙ ap (λ (c : Option ℕ). made (map (bindings_of (terms_of p) (state_columns p)) (states_told p t)) (given_rows (terms_of p) (input_columns p) (each_input_told p t)) c) (start_is t.start (all rule.Loop))

  pub shows_violated : ShowsViolated p spec t
  shows_violated = record { lasso = lasso_told p t; told = told_as; violates = violates p spec t all; faultless = faultless p spec t all }
