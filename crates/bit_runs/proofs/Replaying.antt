-- The rows of a bad run are a run of the program.
use Rattle.std.proofs.Common.{◌≡◌, ◌∙◌, ℕ, ◌+◌, ◌-◌, ◌<◌, Bool, true, false, List, [], ◌∷◌, length, take, refl, sym, ap, subst, arith}
use Rattle.std.proofs.lemmas.Bool.{and_parts}
use Rattle.std.proofs.lemmas.List.{get_or-map, get_or-take, length-map, length-take-le}
use Rattle.clause_core.specs.Assignments.{assignment_of}
use Rattle.clause_core.specs.Systems.{TransitionSystem, NextIs}
use Rattle.smv_tree.specs.declared.tree.Program.{Program}
use Rattle.smv_value.specs.declared.value.Value.{Value}
use Rattle.smv_value.specs.declared.value.Value.TheVariants as value
use Rattle.smv_resolve.specs.Items.{ResolvedItem}
use Rattle.smv_slots.specs.Slots.{slots_of}
use Rattle.smv_meaning.specs.declared.outcome.Evaluation.{Evaluation}
use Rattle.smv_meaning.specs.declared.outcome.Evaluation.TheVariants.{Fault, Nothing, Values}
use Rattle.smv_meaning.specs.Outcomes.{one}
use Rattle.smv_meaning.specs.Values.{outcome_in}
use Rattle.smv_meaning.specs.Runs.{Breaks, at_time, is_first_state, is_state, is_step}
use Rattle.frame_core.specs.Runs.{IsBadRun, row_at}
use Rattle.bit_outcomes.specs.Asked.{is_false}
use Rattle.bit_states.specs.Coding.{inputs_of, next_of, state_of}
use Rattle.bit_states.specs.Layouts.{state_types, state_width}
use Rattle.bit_conditions.specs.Asked.{is_broken_in}
use Rattle.bit_system.specs.Standing.{AgreesWith, StandsFor}
use Rattle.bit_system.proofs.Frames.{decoded_moved, plain}
use Rattle.bit_runs.specs.Running.{inputs_in, states_in}

-- what is FALSE has the one value FALSE
false_only : (o : Evaluation) → is_false o ≡ true → o ≡ one (value.Bool false)
false_only (Fault rule place) h = absurd (let never : ⊥ = cc in never)
false_only Nothing h = absurd (let never : ⊥ = cc in never)
false_only (Values []) h = absurd (let never : ⊥ = cc in never)
false_only (Values (value.Bool true ∷ [])) h = absurd (let never : ⊥ = cc in never)
false_only (Values (value.Bool false ∷ [])) h = refl
false_only (Values (value.Int z ∷ [])) h = absurd (let never : ⊥ = cc in never)
false_only (Values (value.Sym k ∷ [])) h = absurd (let never : ⊥ = cc in never)
false_only (Values (value.Word s k b ∷ [])) h = absurd (let never : ⊥ = cc in never)
false_only (Values (v ∷ u ∷ vs)) h = absurd (let never : ⊥ = cc in never)

module _ (p : Program) (spec : ResolvedItem) (sys : TransitionSystem) (stands : StandsFor p spec sys) (agrees : AgreesWith p spec sys) (rows : List (List Bool)) (run : IsBadRun sys rows) where
  abbrev state_in : List Bool → List Value
  state_in r = state_of p (assignment_of r)

  abbrev inputs_of_row : List Bool → List Value
  inputs_of_row r = inputs_of p (assignment_of r)

  state_at : (k : ℕ) → k < length rows → at_time (states_in p rows) k ≡ state_of p (row_at rows k)
  state_at k lt = get_or-map state_in rows k [] [] lt

  steps_long : length (inputs_in p rows) ≡ length rows - 1
  steps_long =
      let n = length rows - 1 in
      length-map (take n rows) inputs_of_row ∙ length-take-le n rows (omega arith)

  inputs_at : (k : ℕ) → k < length rows - 1 → at_time (inputs_in p rows) k ≡ inputs_of p (row_at rows k)
  inputs_at k lt =
      let n = length rows - 1 in
      let inside : k < length (take n rows) = omega (arith, lt, length-take-le n rows (omega arith)) in
      get_or-map inputs_of_row (take n rows) k [] [] inside ∙ ap inputs_of_row (get_or-take n rows k [] lt)

  -- each row's next state is the state of the next row
  next_at : (k : ℕ) → k + 1 < length rows → next_of p (row_at rows k) ≡ state_of p (row_at rows (k + 1))
  next_at k lt =
      let w = state_width p in
      let link : NextIs w (row_at rows k) (row_at rows (k + 1)) = subst (λ n. NextIs n (row_at rows k) (row_at rows (k + 1))) stands.bits (run.run.links k lt) in
      decoded_moved (state_types p) (row_at rows k) (row_at rows (k + 1)) w w 0 (λ i below. link i below ∙ ap (row_at rows (k + 1)) (sym (plain i)))

  pub replayed : Breaks p spec (states_in p rows) (inputs_in p rows)
  replayed =
      let last = length rows - 1 in
      let some : 0 < length rows = run.run.some in
      let ends : last < length rows = omega (arith, some) in
      let bad : is_broken_in p spec (state_of p (row_at rows last)) ≡ true = (agrees.bad (row_at rows last)).0 (row_at rows last, (λ k lt. refl), run.bad) in
      record {
        run = record {
          long = length-map rows state_in ∙ sym (ap (λ n. n + 1) steps_long ∙ (let e : (length rows - 1) + 1 ≡ length rows = omega (arith, some) in e));
          first = subst (λ s. is_first_state p s ≡ true) (sym (state_at 0 some)) ((agrees.first (row_at rows 0)).0 run.run.first);
          steps = λ i lt.
              let below : i < length rows - 1 = subst (λ n. i < n) steps_long lt in
              let both : i + 1 < length rows = omega (arith, below) in
              let step : is_step p (state_of p (row_at rows i)) (inputs_of p (row_at rows i)) (next_of p (row_at rows i)) ≡ true = agrees.inputs (row_at rows i) (run.run.steps i both) in
              let to : is_step p (state_of p (row_at rows i)) (inputs_of p (row_at rows i)) (at_time (states_in p rows) (i + 1)) ≡ true =
              subst (λ t. is_step p (state_of p (row_at rows i)) (inputs_of p (row_at rows i)) t ≡ true) (next_at i both ∙ sym (state_at (i + 1) both)) step in
              let by : is_step p (state_of p (row_at rows i)) (at_time (inputs_in p rows) i) (at_time (states_in p rows) (i + 1)) ≡ true =
              subst (λ u. is_step p (state_of p (row_at rows i)) u (at_time (states_in p rows) (i + 1)) ≡ true) (sym (inputs_at i below)) to in
              subst (λ s. is_step p s (at_time (inputs_in p rows) i) (at_time (states_in p rows) (i + 1)) ≡ true) (sym (state_at i (omega (arith, both)))) by;
        };
        broken =
            ap (λ n. outcome_in (slots_of p) (at_time (states_in p rows) n) spec.value) steps_long
            ∙ ap (λ s. outcome_in (slots_of p) s spec.value) (state_at last ends)
            ∙ false_only (outcome_in (slots_of p) (state_of p (row_at rows last)) spec.value) (and_parts (is_state p (state_of p (row_at rows last))) (is_false (outcome_in (slots_of p) (state_of p (row_at rows last)) spec.value)) bad).1;
      }
