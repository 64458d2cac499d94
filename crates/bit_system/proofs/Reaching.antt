-- A run of the program is one of the system.
use Rattle.std.proofs.Common.{◌≡◌, ℕ, zero, suc, ◌+◌, ◌-◌, ◌≤◌, Bool, true, ◌&&◌, List, length, sym, ap, subst, arith, inl, inr}
use Rattle.std.specs.List.{list_all}
use Rattle.std.proofs.lemmas.Bool.{and_from, and_parts}
use Rattle.clause_core.specs.Systems.{TransitionSystem, BadBits, ReachedWithin}
use Rattle.smv_tree.specs.declared.tree.Program.{Program}
use Rattle.smv_value.specs.declared.value.Value.{Value}
use Rattle.smv_resolve.specs.Items.{ResolvedItem}
use Rattle.smv_layout.specs.Layout.{items_of}
use Rattle.smv_slots.specs.Slots.{slots_of}
use Rattle.smv_meaning.specs.Values.{outcome_in}
use Rattle.smv_meaning.specs.Runs.{Breaks, allows_first, allows_step, are_inputs, at_time, is_first_state, is_state, is_step, keeps_frozen, meets_invariants}
use Rattle.bit_outcomes.specs.Asked.{is_false}
use Rattle.bit_states.specs.Coding.{IsCoding, code_of, state_of}
use Rattle.bit_conditions.specs.Asked.{is_broken_in}
use Rattle.bit_system.specs.Standing.{AgreesWith}
use Rattle.bit_system.specs.Claims.{NeverBad, NeverBadWithin, IsUnbroken, IsUnbrokenWithin}

first_is : (p : Program) (s : List Value) → is_first_state p s ≡ true → is_state p s ≡ true
first_is p s h = (and_parts (is_state p s) (list_all (allows_first (slots_of p) s) (items_of p)) h).0

-- both ends of a step are states
ends_are : (p : Program) (s u t : List Value) → is_step p s u t ≡ true → (is_state p s ≡ true) × (is_state p t ≡ true)
ends_are p s u t h =
    let kept = keeps_frozen (slots_of p) s t in
    let allowed = list_all (allows_step (slots_of p) s u t) (items_of p) in
    let invariants = meets_invariants p s && meets_invariants p t in
    let typed = is_state p s && are_inputs p u && is_state p t in
    let all : typed ≡ true = (and_parts typed kept (and_parts (typed && kept) allowed (and_parts ((typed && kept) && allowed) invariants h).0).0).0 in
    let two = and_parts (is_state p s && are_inputs p u) (is_state p t) all in
    ((and_parts (is_state p s) (are_inputs p u) two.0).0, two.1)

module _ (p : Program) (spec : ResolvedItem) (sys : TransitionSystem) (agrees : AgreesWith p spec sys) (coding : IsCoding p) where
  module _ (states inputs : List (List Value)) (breaks : Breaks p spec states inputs) where
    abbrev code : ℕ → ℕ → Bool
    code i = code_of p (at_time states i)

    abbrev back : (i : ℕ) → is_state p (at_time states i) ≡ true → state_of p (code i) ≡ at_time states i
    back i is = coding.back (at_time states i) is

    a_state : (i : ℕ) → i ≤ length inputs → is_state p (at_time states i) ≡ true
    a_state zero le = first_is p (at_time states 0) breaks.run.first
    a_state (suc i) le =
        subst (λ k. is_state p (at_time states k) ≡ true) (let e : i + 1 ≡ suc i = omega arith in e)
        (ends_are p (at_time states i) (at_time inputs i) (at_time states (i + 1)) (breaks.run.steps i (omega (arith, le)))).1

    -- the bits of each state are reached in so many steps
    reached : (i : ℕ) → i ≤ length inputs → ReachedWithin sys i (code i)
    reached zero le = (agrees.first (code 0)).1 (subst (λ s. is_first_state p s ≡ true) (sym (back 0 (a_state 0 le))) breaks.run.first)
    reached (suc i) le =
        let before : i ≤ length inputs = omega (arith, le) in
        let step : is_step p (at_time states i) (at_time inputs i) (at_time states (suc i)) ≡ true =
        subst (λ k. is_step p (at_time states i) (at_time inputs i) (at_time states k) ≡ true) (let e : i + 1 ≡ suc i = omega arith in e) (breaks.run.steps i (omega (arith, le))) in
        let from : is_step p (state_of p (code i)) (at_time inputs i) (at_time states (suc i)) ≡ true =
        subst (λ s. is_step p s (at_time inputs i) (at_time states (suc i)) ≡ true) (sym (back i (a_state i before))) step in
        let both : is_step p (state_of p (code i)) (at_time inputs i) (state_of p (code (suc i))) ≡ true =
        subst (λ s. is_step p (state_of p (code i)) (at_time inputs i) s ≡ true) (sym (back (suc i) (a_state (suc i) le))) from in
        inr (code i, reached i before, (agrees.step (code i) (code (suc i))).1 (at_time inputs i, both))

    longer : (i d : ℕ) (x : ℕ → Bool) → ReachedWithin sys i x → ReachedWithin sys (d + i) x
    longer i zero x r = subst (λ k. ReachedWithin sys k x) (let e : i ≡ 0 + i = omega arith in e) r
    longer i (suc d) x r = subst (λ k. ReachedWithin sys k x) (let e : suc (d + i) ≡ suc d + i = omega arith in e) (inl (longer i d x r))

    ends_bad : BadBits sys (code (length inputs))
    ends_bad =
        let m = length inputs in
        let is = a_state m (omega arith) in
        let s = at_time states m in
        let wrong : is_false (outcome_in (slots_of p) s spec.value) ≡ true = ap is_false breaks.broken in
        (agrees.bad (code m)).1 (subst (λ t. is_broken_in p spec t ≡ true) (sym (back m is)) (and_from (is_state p s) (is_false (outcome_in (slots_of p) s spec.value)) is wrong))

  pub unbroken_within : (n : ℕ) → NeverBadWithin sys n → IsUnbrokenWithin p spec n
  unbroken_within n safe states inputs short breaks =
      let m = length inputs in
      let gap : (n - m) + m ≡ n = omega (arith, short) in
      safe (code states inputs breaks m) (subst (λ k. ReachedWithin sys k (code states inputs breaks m)) gap (longer states inputs breaks m (n - m) (code states inputs breaks m) (reached states inputs breaks m (omega arith))))
      (ends_bad states inputs breaks)

  pub unbroken : NeverBad sys → IsUnbroken p spec
  unbroken safe states inputs breaks = unbroken_within (length inputs) (safe (length inputs)) states inputs (omega arith) breaks
