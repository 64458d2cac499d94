-- Where no item of a program ever faults, nothing faults along its runs and lassos.
use Rattle.std.proofs.Common.{◌≡◌, ◌∙◌, ℕ, zero, suc, ◌+◌, ◌-◌, ◌<◌, Bool, true, false, not, ◌||◌, List, [], ◌∷◌, length, get_or, Contains, refl, sym, ap, subst, arith}
use lib.Dec.{ltb}
use Rattle.std.specs.List.{list_all}
use Rattle.std.specs.Option.{is_none}
use Rattle.std.proofs.lemmas.Bool.{and_from, and_parts, cond-false, cond-true, ltb-true}
use Rattle.smv_tree.specs.declared.tree.Program.{Program}
use Rattle.smv_value.specs.declared.value.Value.{Value}
use Rattle.smv_resolve.specs.declared.item.ItemKind.{ItemKind}
use Rattle.smv_resolve.specs.Items.{ResolvedItem}
use Rattle.smv_layout.specs.Layout.{items_of}
use Rattle.smv_slots.specs.Slots.{slots_of, types_of}
use Rattle.smv_meaning.specs.Faults.{IsFaultFree, fault_of_value, item_fault, speaks_of_paths, type_assigned}
use Rattle.smv_meaning.specs.Formulas.{formula_fault}
use Rattle.smv_meaning.specs.Lassos.{IsLasso, Lasso}
use Rattle.smv_meaning.specs.Runs.{IsRun, are_inputs, at_time, is_state, item_outcome, speaks_of_step}
use Rattle.smv_meaning.specs.Values.{outcome, outcome_in}
use Rattle.trace_replay.specs.declared.faultless.Asked.{Asked}
use Rattle.trace_replay.specs.declared.faultless.Asked.TheVariants.{First, Always, Step}
use Rattle.trace_replay.specs.Faultless.{IsFaultlessLasso, IsFaultlessRun, all_faultless, is_asking, is_faultless}
use Rattle.trace_replay.proofs.Broken.{of_run, step_parts}
use Rattle.trace_replay.proofs.OfFaults.{asked_of_each, asked_of_first, asked_of_no_path}
use Rattle.trace_replay.proofs.Shows.{unasked}
use Rattle.trace_replay.proofs.Violated.{of_lasso}

-- a test that all of a list pass
each_passes : (test : ResolvedItem → Bool) (xs : List ResolvedItem) (k : ℕ) (d : ResolvedItem) → list_all test xs ≡ true → k < length xs → test (get_or xs k d) ≡ true
each_passes test [] k d all h = absurd (let never : ⊥ = omega (arith, h) in never)
each_passes test (x ∷ xs) zero d all h = (and_parts (test x) (list_all test xs) all).0
each_passes test (x ∷ xs) (suc k) d all h = each_passes test xs k d (and_parts (test x) (list_all test xs) all).1 (omega (arith, h))

passes_where : (asked test wanted : ResolvedItem → Bool) (xs : List ResolvedItem) → ((x : ResolvedItem) → asked x ≡ true → test x ≡ wanted x) → list_all test xs ≡ true
    → list_all (λ (x : ResolvedItem). not (asked x) || wanted x) xs ≡ true
passes_where asked test wanted [] same all = refl
passes_where asked test wanted (x ∷ xs) same all =
    let both = and_parts (test x) (list_all test xs) all in
    and_from (not (asked x) || wanted x) (list_all (λ (y : ResolvedItem). not (asked y) || wanted y) xs)
    (unasked (asked x) (wanted x) (λ e. sym (same x e) ∙ both.0)) (passes_where asked test wanted xs same both.1)

-- the fault of an item that speaks of a state is the same with all inputs and all next states
same_fault : (p : Program) (s u t : List Value) (x : ResolvedItem) → speaks_of_paths x.kind ≡ false → speaks_of_step x.kind ≡ false
    → item_fault (types_of p) (slots_of p) s u t x ≡ item_fault (types_of p) (slots_of p) s [] [] x
same_fault p s u t x path step =
    let slots = slots_of p in
    let declared = type_assigned (types_of p) x.target in
    let of_state : (v w : List Value) → item_fault (types_of p) slots s v w x ≡ fault_of_value declared x.begins (outcome_in slots s x.value) =
    λ v w.
    cond-false (speaks_of_paths x.kind) (formula_fault slots s v x.value) (fault_of_value declared x.begins (item_outcome slots s v w x.value x.kind)) path
    ∙ ap (fault_of_value declared x.begins) (cond-false (speaks_of_step x.kind) (outcome slots s v w x.value) (outcome_in slots s x.value) step) in
    of_state u t ∙ sym (of_state [] [])

-- that of a formula is the same with all next states
same_of_formula : (p : Program) (s u t : List Value) (x : ResolvedItem) → speaks_of_paths x.kind ≡ true → item_fault (types_of p) (slots_of p) s u t x ≡ item_fault (types_of p) (slots_of p) s u [] x
same_of_formula p s u t x path =
    let slots = slots_of p in
    let declared = type_assigned (types_of p) x.target in
    let of_path : (w : List Value) → item_fault (types_of p) slots s u w x ≡ formula_fault slots s u x.value =
    λ w. cond-true (speaks_of_paths x.kind) (formula_fault slots s u x.value) (fault_of_value declared x.begins (item_outcome slots s u w x.value x.kind)) path in
    of_path t ∙ sym (of_path [])

module _ (p : Program) (free : IsFaultFree p) where
  in_step : (s u t : List Value) → is_state p s ≡ true → are_inputs p u ≡ true → is_state p t ≡ true → all_faultless Step p s u t ≡ true
  in_step s u t from given to =
      passes_where (λ (x : ResolvedItem). is_asking Step x.kind) (is_faultless p s u t) (is_faultless p s u t) (items_of p) (λ x h. refl) (free s u t from given to)

  in_state : (asked : Asked) → ((k : ItemKind) → is_asking asked k ≡ true → speaks_of_step k ≡ false) → (s u : List Value) → is_state p s ≡ true → are_inputs p u ≡ true
      → all_faultless asked p s [] [] ≡ true
  in_state asked still s u from given =
      passes_where (λ (x : ResolvedItem). is_asking asked x.kind) (is_faultless p s u s) (is_faultless p s [] []) (items_of p)
      (λ x h. ap is_none (same_fault p s u s x (asked_of_no_path asked x.kind h) (still x.kind h))) (free s u s from given from)

  in_formula : (spec : ResolvedItem) → Contains (items_of p) spec → speaks_of_paths spec.kind ≡ true → (s u : List Value) → is_state p s ≡ true → are_inputs p u ≡ true
      → is_faultless p s u [] spec ≡ true
  in_formula spec among path s u from given =
      let here : is_faultless p s u s spec ≡ true =
      subst (λ (x : ResolvedItem). is_faultless p s u s x ≡ true) among.2 (each_passes (is_faultless p s u s) (items_of p) among.0 spec (free s u s from given from) among.1) in
      ap is_none (sym (same_of_formula p s u s spec path)) ∙ here

  -- along a run, if there are inputs
  pub free_run : (given : List Value) → are_inputs p given ≡ true → (states inputs : List (List Value)) → IsRun p states inputs → IsFaultlessRun p states inputs
  free_run given are states inputs run = record {
    first = in_state First asked_of_first (at_time states 0) given (of_run p states inputs run 0 (let long = run.long in omega (arith, long))).0 are;
    each = λ i below. in_state Always asked_of_each (at_time states i) given (of_run p states inputs run i below).0 are;
    steps = λ i below.
        let parts = step_parts p (at_time states i) (at_time inputs i) (at_time states (i + 1)) (run.steps i (let long = run.long in omega (arith, long, below))) in
        in_step (at_time states i) (at_time inputs i) (at_time states (i + 1)) parts.0 parts.1 parts.2;
  }

  -- along a lasso
  pub free_lasso : (spec : ResolvedItem) → Contains (items_of p) spec → speaks_of_paths spec.kind ≡ true → (w : Lasso) → IsLasso p w → IsFaultlessLasso p spec w
  free_lasso spec among path w lasso =
      let states = w.states in
      let inputs = w.inputs in
      let typed = of_lasso p w lasso in
      let some : 0 < length states = let inside = lasso.inside in omega (arith, inside) in record {
        run = record {
          first = in_state First asked_of_first (at_time states 0) (at_time inputs 0) (typed 0 some).0 (typed 0 some).1;
          each = λ i below. in_state Always asked_of_each (at_time states i) (at_time inputs i) (typed i below).0 (typed i below).1;
          steps = λ i below.
              let parts = step_parts p (at_time states i) (at_time inputs i) (at_time states (i + 1)) (lasso.steps i below) in
              in_step (at_time states i) (at_time inputs i) (at_time states (i + 1)) parts.0 parts.1 parts.2;
        };
        back =
            let last = length states - 1 in
            let parts = step_parts p (at_time states last) (at_time inputs last) (at_time states w.start) lasso.back in
            in_step (at_time states last) (at_time inputs last) (at_time states w.start) parts.0 parts.1 parts.2;
        formula = λ i.
            unasked (ltb i (length states)) (is_faultless p (at_time states i) (at_time inputs i) [] spec)
            (λ e.
            let below = ltb-true i (length states) e in
            in_formula spec among path (at_time states i) (at_time inputs i) (typed i below).0 (typed i below).1);
      }
