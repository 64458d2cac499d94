-- The first test that fails, by the first number at which each fails.
use Rattle.std.proofs.Common.{◌≡◌, inl, inr, ℕ, ◌+◌, ◌-◌, ◌<◌, Bool, true, not, List, [], get_or, length, Option, None, Some, refl, sym, subst, ap, ◌∙◌, arith}
use lib.Dec.{ltb}
use Rattle.std.proofs.lemmas.Bool.{eq-eqb, ne_eqb, or_right}
use Rattle.std.proofs.lemmas.List.{get_or_default, length-map}
use Rattle.std.proofs.lemmas.List.FromFn.{length-map-range_with_len}
use Rattle.smv_tree.specs.declared.tree.Program.{Program}
use Rattle.smv_value.specs.declared.value.Value.{Value}
use Rattle.smv_resolve.specs.Items.{ResolvedItem}
use Rattle.smv_meaning.specs.Runs.{at_time}
use Rattle.trace_replay.specs.declared.rule.ReplayRule.{ReplayRule}
use Rattle.trace_replay.specs.declared.rule.ReplayRule.TheVariants as rule
use Rattle.trace_replay.specs.declared.telling.Told.{Told}
use Rattle.trace_replay.specs.declared.trace.Trace.{Trace}
use Rattle.trace_replay.specs.Faultless.{is_evaluated, is_faultless, steps_well}
use Rattle.trace_replay.specs.Telling.{FirstFailing, IsFirstFailing, IsTold}
use Rattle.trace_replay.specs.Tests.{FailsFirst, goes_on, passes, rank, starts_at}
use Rattle.trace_replay.proofs.OfTelling.{some_state}

-- nothing fails
pub passed_from : (test : ℕ → Bool) (o : Option ℕ) → IsFirstFailing test o → ((n : ℕ) → o ≡ Some n → ⊥) → (i : ℕ) → test i ≡ true
passed_from test None h never = h
passed_from test (Some n) h never = absurd (never n refl)

starts_never : (o : Option ℕ) → ((n : ℕ) → o ≡ Some n → ⊥) → (i : ℕ) → not (starts_at o i) ≡ true
starts_never None never i = refl
starts_never (Some n) never i = absurd (never n refl)

module _ (p : Program) (t : Trace) (told : Told) (is : IsTold p t told) where
  pub length_states : length told.states ≡ length t.states
  length_states = ap length is.states ∙ length-map t.states _

  pub length_inputs : length told.inputs ≡ length t.states - 1
  length_inputs = ap length is.inputs ∙ length-map-range_with_len _ 0 (length t.states - 1)

  pub some_told : 0 < length told.states
  some_told = let some = some_state p t (is.fit 0) in omega (arith, length_states)

  pub one_more : length told.states ≡ length told.inputs + 1
  one_more = let some = some_state p t (is.fit 0) in omega (arith, length_states, length_inputs)

module _ (p : Program) (spec : ResolvedItem) (t : Trace) where
  abbrev pub Passed : ReplayRule → Type 0
  Passed r = (i : ℕ) → passes p spec t r i ≡ true

  fails_first : (r : ReplayRule) (n : ℕ) → FirstFailing (passes p spec t r) n → ((s : ReplayRule) → rank s < rank r → Passed s) → FailsFirst p spec t r n
  fails_first r n first before = record {
    fails = first.fails;
    earlier = λ s i e. elim e [
      | inl below ↦ before s below i
      | inr same ↦ subst (λ (q : ReplayRule). passes p spec t q i ≡ true) (sym same.0) (first.before i same.1)
    ];
  }

  pub values_first : (n : ℕ) → FirstFailing (passes p spec t rule.Values) n → FailsFirst p spec t rule.Values n
  values_first n first = fails_first rule.Values n first (λ s below. absurd (let no : ⊥ = omega (arith, below) in no))

  below_first : Passed rule.Values → (s : ReplayRule) → rank s < 1 → Passed s
  below_first a rule.Values h = a
  below_first a rule.First h = absurd (let no : ⊥ = omega (arith, h) in no)
  below_first a rule.Inv h = absurd (let no : ⊥ = omega (arith, h) in no)
  below_first a rule.Step h = absurd (let no : ⊥ = omega (arith, h) in no)
  below_first a rule.Loop h = absurd (let no : ⊥ = omega (arith, h) in no)
  below_first a rule.Fair h = absurd (let no : ⊥ = omega (arith, h) in no)
  below_first a rule.Spec h = absurd (let no : ⊥ = omega (arith, h) in no)

  below_inv : Passed rule.Values → Passed rule.First → (s : ReplayRule) → rank s < 2 → Passed s
  below_inv a b rule.First h = b
  below_inv a b rule.Values h = a
  below_inv a b rule.Inv h = absurd (let no : ⊥ = omega (arith, h) in no)
  below_inv a b rule.Step h = absurd (let no : ⊥ = omega (arith, h) in no)
  below_inv a b rule.Loop h = absurd (let no : ⊥ = omega (arith, h) in no)
  below_inv a b rule.Fair h = absurd (let no : ⊥ = omega (arith, h) in no)
  below_inv a b rule.Spec h = absurd (let no : ⊥ = omega (arith, h) in no)

  below_step : Passed rule.Values → Passed rule.First → Passed rule.Inv → (s : ReplayRule) → rank s < 3 → Passed s
  below_step a b c rule.Values h = a
  below_step a b c rule.First h = b
  below_step a b c rule.Inv h = c
  below_step a b c rule.Step h = absurd (let no : ⊥ = omega (arith, h) in no)
  below_step a b c rule.Loop h = absurd (let no : ⊥ = omega (arith, h) in no)
  below_step a b c rule.Fair h = absurd (let no : ⊥ = omega (arith, h) in no)
  below_step a b c rule.Spec h = absurd (let no : ⊥ = omega (arith, h) in no)

  below_loop : Passed rule.Values → Passed rule.First → Passed rule.Inv → Passed rule.Step → (s : ReplayRule) → rank s < 4 → Passed s
  below_loop a b c d rule.Values h = a
  below_loop a b c d rule.First h = b
  below_loop a b c d rule.Inv h = c
  below_loop a b c d rule.Step h = d
  below_loop a b c d rule.Loop h = absurd (let no : ⊥ = omega (arith, h) in no)
  below_loop a b c d rule.Fair h = absurd (let no : ⊥ = omega (arith, h) in no)
  below_loop a b c d rule.Spec h = absurd (let no : ⊥ = omega (arith, h) in no)

  below_spec : Passed rule.Values → Passed rule.First → Passed rule.Inv → Passed rule.Step → Passed rule.Loop → (s : ReplayRule) → rank s < 6 → Passed s
  below_spec a b c d e rule.Values h = a
  below_spec a b c d e rule.First h = b
  below_spec a b c d e rule.Inv h = c
  below_spec a b c d e rule.Step h = d
  below_spec a b c d e rule.Loop h = e
  below_spec a b c d e rule.Fair h = λ i. refl
  below_spec a b c d e rule.Spec h = absurd (let no : ⊥ = omega (arith, h) in no)

  pub first_first : Passed rule.Values → (n : ℕ) → FirstFailing (passes p spec t rule.First) n → FailsFirst p spec t rule.First n
  first_first a n first = fails_first rule.First n first (below_first a)

  pub inv_first : Passed rule.Values → Passed rule.First → (n : ℕ) → FirstFailing (passes p spec t rule.Inv) n → FailsFirst p spec t rule.Inv n
  inv_first a b n first = fails_first rule.Inv n first (below_inv a b)

  pub step_first : Passed rule.Values → Passed rule.First → Passed rule.Inv → (n : ℕ) → FirstFailing (passes p spec t rule.Step) n → FailsFirst p spec t rule.Step n
  step_first a b c n first = fails_first rule.Step n first (below_step a b c)

  loop_fails : (n : ℕ) → t.start ≡ Some n → FirstFailing (passes p spec t rule.Loop) n
  loop_fails n start = record {
    fails = ap (λ (o : Option ℕ). not (starts_at o n)) start ∙ ap not (eq-eqb n n refl);
    before = λ i below. ap (λ (o : Option ℕ). not (starts_at o i)) start ∙ ap not (ne_eqb n i (λ e. let no : ⊥ = omega (arith, e, below) in no));
  }

  pub loop_first : Passed rule.Values → Passed rule.First → Passed rule.Inv → Passed rule.Step → (n : ℕ) → t.start ≡ Some n → FailsFirst p spec t rule.Loop n
  loop_first a b c d n start = fails_first rule.Loop n (loop_fails n start) (below_loop a b c d)

  pub no_loop : ((n : ℕ) → t.start ≡ Some n → ⊥) → Passed rule.Loop
  no_loop none i = starts_never t.start none i

  pub spec_first : Passed rule.Values → Passed rule.First → Passed rule.Inv → Passed rule.Step → Passed rule.Loop → (n : ℕ) → FirstFailing (passes p spec t rule.Spec) n → FailsFirst p spec t rule.Spec n
  spec_first a b c d e n first = fails_first rule.Spec n first (below_spec a b c d e)

  pub all_passed : Passed rule.Values → Passed rule.First → Passed rule.Inv → Passed rule.Step → Passed rule.Loop → Passed rule.Spec → (r : ReplayRule) → Passed r
  all_passed a b c d e f rule.Values = a
  all_passed a b c d e f rule.First = b
  all_passed a b c d e f rule.Inv = c
  all_passed a b c d e f rule.Step = d
  all_passed a b c d e f rule.Loop = e
  all_passed a b c d e f rule.Fair = λ i. refl
  all_passed a b c d e f rule.Spec = f

at_read : (xs : List (List Value)) (i : ℕ) (x : List Value) → i < length xs → x ≡ get_or xs i x → x ≡ at_time xs i
at_read xs i x within is = is ∙ get_or_default xs i x [] within

-- there is a step from one state more
pub step_here : (p : Program) (states inputs : List (List Value)) (i : ℕ) (s u next : List Value) → i < length inputs → length states ≡ length inputs + 1
    → s ≡ get_or states i s → u ≡ get_or inputs i u → next ≡ get_or states (i + 1) next → steps_well p s u next ≡ true → goes_on p states inputs i ≡ true
step_here p states inputs i s u next within long is given later stepped =
    or_right (not (ltb (i + 1) (length states))) (steps_well p (at_time states i) (at_time inputs i) (at_time states (i + 1)))
    (ap (λ (x : List Value). steps_well p x (at_time inputs i) (at_time states (i + 1))) (sym (at_read states i s (omega arith) is))
    ∙ ap (λ (x : List Value). steps_well p s x (at_time states (i + 1))) (sym (at_read inputs i u within given))
    ∙ ap (λ (x : List Value). steps_well p s u x) (sym (at_read states (i + 1) next (omega arith) later))
    ∙ stepped)

-- the formula does not fault in one state more
pub evaluated_here : (p : Program) (spec : ResolvedItem) (states inputs : List (List Value)) (i : ℕ) (s u : List Value) → i < length inputs → length states ≡ length inputs
    → s ≡ get_or states i s → u ≡ get_or inputs i u → is_faultless p s u [] spec ≡ true → is_evaluated p spec states inputs i ≡ true
evaluated_here p spec states inputs i s u within long is given faultless =
    or_right (not (ltb i (length states))) (is_faultless p (at_time states i) (at_time inputs i) [] spec)
    (ap (λ (x : List Value). is_faultless p x (at_time inputs i) [] spec) (sym (at_read states i s (omega (arith, within, long)) is))
    ∙ ap (λ (x : List Value). is_faultless p s x [] spec) (sym (at_read inputs i u within given))
    ∙ faultless)
