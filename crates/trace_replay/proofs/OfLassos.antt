-- The tests of lassos, and what they show.
use Rattle.std.proofs.Common.{◌≡◌, ◌∙◌, ◌⊎◌, inl, inr, ℕ, zero, suc, ◌+◌, ◌-◌, ◌<◌, ◌≤◌, max, Bool, true, false, not, ◌&&◌, ◌||◌, cond, List, [], ◌∷◌, ◌++◌, length, map, take, drop, get_or, Option, None, Some, refl, sym, ap, subst, arith, unwrap_or, slice_get}
use lib.Dec.{eqb, leb, ltb}
use Rattle.std.specs.List.{range_with_len, list_any, filter, Contains}
use Rattle.std.specs.Option.{is_some, option_map}
use Rattle.std.proofs.lemmas.Bool.{and_from, and_parts, cases_lt, cond-false, cond-true, eq-eqb, le-leb, le-ltb, leb-true, lt-leb, lt-ltb, ltb-true, ne_eqb}
use Rattle.std.proofs.lemmas.List.{get_or-drop, get_or-take, length-drop, length-map}
use Rattle.std.proofs.lemmas.List.FromFn.{length-map-range_with_len, map-range_with_len_more}
use Rattle.std.proofs.lemmas.Option.{slice_get-get_or, slice_get-map, slice_get_past, slice_get_within}
use Rattle.smv_tree.specs.declared.tree.Program.{Program}
use Rattle.smv_value.specs.declared.value.Value.{Value}
use Rattle.smv_value.specs.declared.value.Value.TheVariants as value
use Rattle.smv_resolve.specs.declared.item.Item.{Item}
use Rattle.smv_resolve.specs.declared.node.ExprNode.{ExprNode}
use Rattle.smv_resolve.specs.Items.{ResolvedItem, item_by}
use Rattle.smv_layout.specs.Layout.{items_of}
use Rattle.smv_resolve.specs.Resolved.{last_of}
use Rattle.smv_slots.specs.Slots.{slots_of}
use Rattle.smv_meaning.specs.declared.outcome.Evaluation.{Evaluation}
use Rattle.smv_meaning.specs.declared.outcome.Evaluation.TheVariants.{Fault, Nothing, Values}
use Rattle.smv_meaning.specs.Lassos.{Lasso, IsLasso, MeetsJustice, Violates, Holds}
use Rattle.smv_meaning.specs.Runs.{at_time, is_first_state, is_true, meets_invariants}
use Rattle.smv_meaning.specs.Outcomes.{one}
use Rattle.smv_meaning.specs.Values.{outcome_in}
use Rattle.trace_replay.specs.declared.columns.Column.{Column}
use Rattle.trace_replay.specs.declared.rule.ReplayRule.{ReplayRule}
use Rattle.trace_replay.specs.declared.rule.ReplayRule.TheVariants as rule
use Rattle.trace_replay.specs.declared.trace.Trace.{Trace}
use Rattle.trace_replay.specs.declared.faultless.Asked.TheVariants.{First, Always}
use Rattle.trace_replay.specs.Faultless.{IsFaultlessLasso, all_faultless, begins_well, is_evaluated, stays_well, steps_well}
use Rattle.trace_replay.specs.Lassos.{IsFalseOn, LassoPasses, LassoFailsFirst, due_each, each_input_fits, each_input_told, each_value_fits, goes_back, is_fair, is_justice, is_loop, is_met, justices_of, lasso_told}
use Rattle.trace_replay.specs.Rows.{input_columns, inputs_read, state_columns, state_read, states_told, terms_of}
use Rattle.trace_replay.specs.Telling.{FirstFailing, IsFirstFailing}
use Rattle.trace_replay.specs.Tests.{begins, goes_on, rank, state_fits, stays}
use Rattle.trace_replay.proofs.OfTelling.{is_there, line_row}
use Rattle.trace_replay.proofs.Shows.{Stepped, unless, well_begun, well_stepped}

-- a test that is asked at all
asked : (a b : Bool) → (not a || b) ≡ true → a ≡ true → b ≡ true
asked true b h e = h
asked false b h e = absurd (let never : ⊥ = cc in never)

unasked : (a b : Bool) → (a ≡ true → b ≡ true) → (not a || b) ≡ true
unasked true b h = h refl
unasked false b h = refl

refused : (a b : Bool) → a ≡ true → b ≡ false → (not a || b) ≡ false
refused true b h e = e
refused false b h e = absurd (let never : ⊥ = cc in never)

pub both_ways : (b : Bool) → b ≡ false → b ≡ true → ⊥
both_ways b x y = let e : false ≡ true = sym x ∙ y in cc

both_fail : (a b : Bool) → b ≡ false → (a && b) ≡ false
both_fail true b h = h
both_fail false b h = refl

pub none_from : (o : Option ℕ) → ((n : ℕ) → o ≡ Some n → ⊥) → o ≡ None
none_from None h = refl
none_from (Some n) h = absurd (h n refl)

-- the numbers of the tests

rule_of : ℕ → ReplayRule
rule_of zero = rule.Values
rule_of (suc zero) = rule.First
rule_of (suc (suc zero)) = rule.Inv
rule_of (suc (suc (suc zero))) = rule.Step
rule_of (suc (suc (suc (suc zero)))) = rule.Loop
rule_of (suc (suc (suc (suc (suc zero))))) = rule.Fair
rule_of (suc (suc (suc (suc (suc (suc n)))))) = rule.Spec

rule_back : (r : ReplayRule) → rule_of (rank r) ≡ r
unfolding rule_of
rule_back rule.Values = refl
rule_back rule.First = refl
rule_back rule.Inv = refl
rule_back rule.Step = refl
rule_back rule.Loop = refl
rule_back rule.Fair = refl
rule_back rule.Spec = refl

rank_small : (r : ReplayRule) → rank r < 7
rank_small rule.Values = omega arith
rank_small rule.First = omega arith
rank_small rule.Inv = omega arith
rank_small rule.Step = omega arith
rank_small rule.Loop = omega arith
rank_small rule.Fair = omega arith
rank_small rule.Spec = omega arith

-- there is a state where all values fit
pub some_each : (p : Program) (t : Trace) → each_value_fits p t 0 ≡ true → 0 < length t.states
some_each p t fit =
    let first : state_fits p t 0 ≡ true = (and_parts (state_fits p t 0) (each_input_fits p t 0) fit).0 in
    let top : ltb 0 (max 1 (length t.states)) ≡ true = lt-ltb 0 (max 1 (length t.states)) (omega arith) in
    let told : is_some (state_read p t 0) ≡ true = sym (cond-true (ltb 0 (max 1 (length t.states))) (is_some (state_read p t 0)) true top) ∙ first in
    let value = is_there (state_read p t 0) told in
    let row = line_row (terms_of p) (state_columns p) (slice_get t.states 0) value.0 value.1 in
    slice_get_within t.states 0 row.0 row.1

-- a lasso of these
abbrev pub on : List (List Value) → List (List Value) → ℕ → Lasso
on a b k = record { states = a; inputs = b; start = k }

module _ (p : Program) (spec : ResolvedItem) (t : Trace) where
  abbrev pub AllPass : ReplayRule → Type 0
  AllPass r = (i : ℕ) → LassoPasses p spec t r i

  -- all tests before this one
  abbrev pub Below : ℕ → Type 0
  Below k = (r : ReplayRule) → rank r < k → AllPass r

  pub begin : Below 0
  begin r h = absurd (let never : ⊥ = omega (arith, h) in never)

  pub more : (r : ReplayRule) → Below (rank r) → AllPass r → Below (rank r + 1)
  more r lower all s h =
      elim (cases_lt (rank s) (rank r)) [
        | inl b ↦ lower s b
        | inr c ↦
            let e : rank s ≡ rank r = omega (arith, c, h) in
            subst AllPass (sym (sym (rule_back s) ∙ ap rule_of e ∙ rule_back r)) all
      ]

  pub all_of : Below 7 → (r : ReplayRule) (i : ℕ) → LassoPasses p spec t r i
  all_of lower r i = lower r (rank_small r) i

  fails_first : (r : ReplayRule) (n : ℕ) → (LassoPasses p spec t r n → ⊥) → ((i : ℕ) → i < n → LassoPasses p spec t r i) → Below (rank r) → LassoFailsFirst p spec t r n
  fails_first r n fails before lower = record {
    fails = fails;
    earlier = λ s i e. elim e [
      | inl below ↦ lower s below i
      | inr same ↦ subst (λ (q : ReplayRule). LassoPasses p spec t q i) (sym same.0) (before i same.1)
    ];
  }

  pub values_first : (n : ℕ) → FirstFailing (each_value_fits p t) n → LassoFailsFirst p spec t rule.Values n
  values_first n first = fails_first rule.Values n (both_ways _ first.fails) first.before begin

  module _ (states inputs : List (List Value)) (ss : states ≡ states_told p t) (us : inputs ≡ each_input_told p t) where
    pub first_fails : Below 1 → (n : ℕ) → FirstFailing (begins p states) n → LassoFailsFirst p spec t rule.First n
    first_fails lower n found =
        let first = subst (λ (x : List (List Value)). FirstFailing (begins p x) n) ss found in
        fails_first rule.First n (both_ways _ first.fails) first.before lower

    pub first_passes : Below 1 → ((i : ℕ) → begins p states i ≡ true) → Below 2
    first_passes lower all = more rule.First lower (subst (λ (x : List (List Value)). (i : ℕ) → begins p x i ≡ true) ss all)

    pub inv_fails : Below 2 → (n : ℕ) → FirstFailing (stays p states) n → LassoFailsFirst p spec t rule.Inv n
    inv_fails lower n found =
        let first = subst (λ (x : List (List Value)). FirstFailing (stays p x) n) ss found in
        fails_first rule.Inv n (both_ways _ first.fails) first.before lower

    pub inv_passes : Below 2 → ((i : ℕ) → stays p states i ≡ true) → Below 3
    inv_passes lower all = more rule.Inv lower (subst (λ (x : List (List Value)). (i : ℕ) → stays p x i ≡ true) ss all)

    long_states : length states ≡ length t.states
    long_states = ap length ss ∙ length-map t.states _

    pub some_told : each_value_fits p t 0 ≡ true → 0 < length states
    some_told fit = let some = some_each p t fit in omega (arith, long_states, some)

    pub even_told : length states ≡ length inputs
    even_told = long_states ∙ sym (ap length us ∙ length-map-range_with_len _ 0 (length t.states))

    -- steps read no more than the inputs between states
    same_steps : (between : List (List Value)) → between ≡ take (length states - 1) inputs → (i : ℕ) → goes_on p states between i ≡ goes_on p (states_told p t) (each_input_told p t) i
    same_steps between is i =
        ap (λ (x : List (List Value)). goes_on p states x i) is
        ∙ elim (cases_lt (i + 1) (length states)) [
          | inl b ↦ ap (λ (u : List Value). not (ltb (i + 1) (length states)) || steps_well p (at_time states i) u (at_time states (i + 1))) (get_or-take (length states - 1) inputs i [] (omega (arith, b)))
          | inr c ↦
              let past : ltb (i + 1) (length states) ≡ false = le-ltb (i + 1) (length states) c in
              unasked (ltb (i + 1) (length states)) (steps_well p (at_time states i) (at_time (take (length states - 1) inputs) i) (at_time states (i + 1))) (λ e. absurd (both_ways _ past e))
              ∙ sym (unasked (ltb (i + 1) (length states)) (steps_well p (at_time states i) (at_time inputs i) (at_time states (i + 1))) (λ e. absurd (both_ways _ past e)))
        ]
        ∙ ap (λ (x : List (List Value)). goes_on p x inputs i) ss
        ∙ ap (λ (x : List (List Value)). goes_on p (states_told p t) x i) us

    module _ (between : List (List Value)) (is : between ≡ take (length states - 1) inputs) where
      pub step_fails : Below 3 → (n : ℕ) → FirstFailing (goes_on p states between) n → LassoFailsFirst p spec t rule.Step n
      step_fails lower n found =
          fails_first rule.Step n (both_ways _ (sym (same_steps between is n) ∙ found.fails)) (λ i h. sym (same_steps between is i) ∙ found.before i h) lower

      pub step_passes : Below 3 → ((i : ℕ) → goes_on p states between i ≡ true) → Below 4
      step_passes lower all = more rule.Step lower (λ i. sym (same_steps between is i) ∙ all i)

    pub no_loop_fails : Below 4 → t.start ≡ None → LassoFailsFirst p spec t rule.Loop 0
    no_loop_fails lower none =
        fails_first rule.Loop 0
        (λ h. both_ways (goes_back p (states_told p t) (each_input_told p t) t.start 0) (ap (λ (o : Option ℕ). goes_back p (states_told p t) (each_input_told p t) o 0) none) h)
        (λ i h. absurd (let never : ⊥ = omega (arith, h) in never)) lower

    module _ (n : ℕ) (start : t.start ≡ Some n) where
      loop_same : is_loop p states inputs n ≡ is_loop p (states_told p t) (each_input_told p t) n
      loop_same = ap (λ (x : List (List Value)). is_loop p x inputs n) ss ∙ ap (λ (x : List (List Value)). is_loop p (states_told p t) x n) us

      back_is : (i : ℕ) → goes_back p (states_told p t) (each_input_told p t) t.start i ≡ (not (eqb i n) || is_loop p (states_told p t) (each_input_told p t) n)
      back_is i = ap (λ (o : Option ℕ). goes_back p (states_told p t) (each_input_told p t) o i) start

      pub loop_fails : Below 4 → is_loop p states inputs n ≡ false → LassoFailsFirst p spec t rule.Loop n
      loop_fails lower off =
          fails_first rule.Loop n
          (both_ways _ (back_is n ∙ refused (eqb n n) (is_loop p (states_told p t) (each_input_told p t) n) (eq-eqb n n refl) (sym loop_same ∙ off)))
          (λ i h. back_is i ∙ unasked (eqb i n) (is_loop p (states_told p t) (each_input_told p t) n) (λ e. absurd (both_ways _ (ne_eqb i n (λ x. let never : ⊥ = omega (arith, x, h) in never)) e))) lower

      pub loop_passes : Below 4 → is_loop p states inputs n ≡ true → Below 5
      loop_passes lower so =
          more rule.Loop lower (λ i. back_is i ∙ unasked (eqb i n) (is_loop p (states_told p t) (each_input_told p t) n) (λ e. sym loop_same ∙ so))

      fair_same : (i : ℕ) → is_fair p (drop n states) i ≡ is_fair p (drop (lasso_told p t).start (states_told p t)) i
      fair_same i =
          ap (λ (x : List (List Value)). is_fair p (drop n x) i) ss
          ∙ ap (λ (o : Option ℕ). is_fair p (drop (unwrap_or o 0) (states_told p t)) i) (sym start)

      pub fair_fails : Below 5 → (m : ℕ) → FirstFailing (is_fair p (drop n states)) m → LassoFailsFirst p spec t rule.Fair m
      fair_fails lower m found =
          fails_first rule.Fair m (both_ways _ (sym (fair_same m) ∙ found.fails)) (λ i h. sym (fair_same i) ∙ found.before i h) lower

      pub fair_passes : Below 5 → ((i : ℕ) → is_fair p (drop n states) i ≡ true) → Below 6
      fair_passes lower all = more rule.Fair lower (λ i. sym (fair_same i) ∙ all i)

      false_same : IsFalseOn p spec (on states inputs n) ≡ IsFalseOn p spec (lasso_told p t)
      false_same =
          ap (λ (x : List (List Value)). IsFalseOn p spec (on x inputs n)) ss
          ∙ ap (λ (x : List (List Value)). IsFalseOn p spec (on (states_told p t) x n)) us
          ∙ ap (λ (o : Option ℕ). IsFalseOn p spec (on (states_told p t) (each_input_told p t) (unwrap_or o 0))) (sym start)

      none_false : Below 6 → (IsFalseOn p spec (on states inputs n) → ⊥) → LassoFailsFirst p spec t rule.Spec 0
      none_false lower never =
          fails_first rule.Spec 0 (λ h. never (subst (λ (X : Type 0). X) (sym false_same) (h refl))) (λ i h. absurd (let never : ⊥ = omega (arith, h) in never)) lower

      -- it faults at some time, or holds at the first one
      pub fault_fails : Below 6 → (o : Option ℕ) (k : ℕ) → IsFirstFailing (is_evaluated p spec states inputs) o → o ≡ Some k → LassoFailsFirst p spec t rule.Spec 0
      fault_fails lower None k found is = absurd (let never : ⊥ = cc in never)
      fault_fails lower (Some m) k found is = none_false lower (λ h. both_ways _ found.fails (h.1 m))

      pub spec_fails : Below 6 → Holds p (on states inputs n) spec.value 0 → LassoFailsFirst p spec t rule.Spec 0
      spec_fails lower holds = none_false lower (λ h. h.0 holds)

      pub spec_passes : Below 6 → ((i : ℕ) → is_evaluated p spec states inputs i ≡ true) → (Holds p (on states inputs n) spec.value 0 → ⊥) → Below 7
      spec_passes lower evaluated never = more rule.Spec lower (λ i e. subst (λ (X : Type 0). X) false_same (never, evaluated))

-- the states of a loop
pub loop_inside : (p : Program) (states inputs : List (List Value)) (n : ℕ) → is_loop p states inputs n ≡ true → n < length states
loop_inside p states inputs n h =
    ltb-true n (length states)
    (and_parts (ltb n (length states)) (steps_well p (at_time states (length states - 1)) (at_time inputs (length states - 1)) (at_time states n)) h).0

pub loop_states : (states : List (List Value)) (n : ℕ) → n < length states → last_of (length states - n) states ≡ drop n states
loop_states states n h = let e : length states - (length states - n) ≡ n = omega (arith, h) in ap (λ (k : ℕ). drop k states) e

-- the values of one number more

pub each_more : {A : Type 0} (g : ℕ → A) (made now : List A) (i : ℕ) (u : A) → now ≡ made ++ u ∷ [] → made ≡ map g (range_with_len 0 i) → u ≡ g i → now ≡ map g (range_with_len 0 (i + 1))
each_more g made now i u pushed so_far is =
    pushed
    ∙ ap (λ (l : List _). l ++ u ∷ []) so_far
    ∙ ap (λ x. map g (range_with_len 0 i) ++ x ∷ []) is
    ∙ sym (map-range_with_len_more g 0 i i (omega arith))

due_few : (cs : List Column) (n : ℕ) → due_each cs n ≤ n
due_few [] n = omega arith
due_few (c ∷ cs) n = omega arith

-- where input slots are, there are as many lines of inputs as states; else there are none
due_is : (cs : List Column) (n m : ℕ) → (due_each cs n ≡ 0 → m ≤ 0) → n < m → due_each cs n ≡ n
due_is [] n m few lt = absurd (let h = few refl in let never : ⊥ = omega (arith, h, lt) in never)
due_is (c ∷ cs) n m few lt = refl

module _ (p : Program) (t : Trace) where
  abbrev due : ℕ
  due = due_each (input_columns p) (length t.states)

  pub each_fits_here : (i : ℕ) (s : List Value) → state_read p t i ≡ Some s → each_input_fits p t i ≡ true → each_value_fits p t i ≡ true
  each_fits_here i s e fit =
      and_from (state_fits p t i) (each_input_fits p t i) (unless (ltb i (max 1 (length t.states))) (is_some (state_read p t i)) (ap (λ (o : Option (List Value)). is_some o) e)) fit

  state_past : (i : ℕ) → max 1 (length t.states) ≤ i → state_fits p t i ≡ true
  state_past i past = cond-false (ltb i (max 1 (length t.states))) (is_some (state_read p t i)) true (le-ltb i (max 1 (length t.states)) past)

  -- those past all states, if there are no more inputs
  pub each_fits_past : length t.inputs ≤ length t.states → (i : ℕ) → max 1 (length t.states) ≤ i → each_value_fits p t i ≡ true
  each_fits_past few i past =
      let small = due_few (input_columns p) (length t.states) in
      and_from (state_fits p t i) (each_input_fits p t i) (state_past i past)
      (cond-false (ltb i due) (is_some (inputs_read p t i)) _ (le-ltb i due (omega (arith, small)))
      ∙ unless (eqb i due) (leb (length t.inputs) i) (le-leb (length t.inputs) i (omega arith)))

  none_due : each_input_fits p t 0 ≡ true → due ≡ 0 → length t.inputs ≤ 0
  none_due fit e =
      leb-true (length t.inputs) 0
      (sym (cond-false (ltb 0 due) (is_some (inputs_read p t 0)) _ (le-ltb 0 due (omega (arith, e)))
      ∙ ap (λ (b : Bool). cond b (leb (length t.inputs) 0) true) (eq-eqb 0 due (sym e)))
      ∙ fit)

  -- there are more inputs
  pub each_fails_past : ((i : ℕ) → i < max 1 (length t.states) → each_value_fits p t i ≡ true) → 0 < length t.states → length t.states < length t.inputs → FirstFailing (each_value_fits p t) (length t.states)
  each_fails_past fit some many =
      let zero_fits = (and_parts (state_fits p t 0) (each_input_fits p t 0) (fit 0 (omega arith))).1 in
      let is : due ≡ length t.states = due_is (input_columns p) (length t.states) (length t.inputs) (none_due zero_fits) many in
      record {
        fails =
            both_fail (state_fits p t (length t.states)) (each_input_fits p t (length t.states))
            (cond-false (ltb (length t.states) due) (is_some (inputs_read p t (length t.states))) _ (le-ltb (length t.states) due (omega (arith, is)))
            ∙ ap (λ (b : Bool). cond b (leb (length t.inputs) (length t.states)) true) (eq-eqb (length t.states) due (sym is))
            ∙ lt-leb (length t.inputs) (length t.states) many);
        before = λ i h. fit i (omega (arith, h));
      }

-- items that are JUSTICE constraints

kept_map : {A B : Type 0} (f : A → B) (b : Bool) (x : A) (xs : List A) → map f (cond b (x ∷ xs) xs) ≡ cond b (f x ∷ map f xs) (map f xs)
kept_map f true x xs = refl
kept_map f false x xs = refl

pub justices_kept : (nodes : List ExprNode) (items : List Item) → map (item_by nodes) (filter (λ (x : Item). is_justice x.kind) items) ≡ filter (λ (x : ResolvedItem). is_justice x.kind) (map (item_by nodes) items)
justices_kept nodes [] = refl
justices_kept nodes (x ∷ items) =
    kept_map (item_by nodes) (is_justice x.kind) x (filter (λ (y : Item). is_justice y.kind) items)
    ∙ ap (λ (l : List ResolvedItem). cond (is_justice x.kind) (item_by nodes x ∷ l) l) (justices_kept nodes items)

module _ (p : Program) (nodes : List ExprNode) (items : List Item) (same : map (item_by nodes) items ≡ justices_of p) (states : List (List Value)) where
  -- one JUSTICE more
  pub fair_here : (i : ℕ) (d : Item) (met : Bool) → i < length items
      → met ≡ list_any (λ (s : List Value). is_true (outcome_in (slots_of p) s (item_by nodes (get_or items i d)).value)) states → met ≡ true → is_fair p states i ≡ true
  fair_here i d met lt is so =
      ap (is_met (slots_of p) states)
      (ap (λ (l : List ResolvedItem). slice_get l i) (sym same) ∙ slice_get-map (item_by nodes) items i ∙ ap (option_map (item_by nodes)) (slice_get-get_or items i d lt))
      ∙ sym is ∙ so

  -- there is no other
  pub fair_past : (i : ℕ) → length items ≤ i → is_fair p states i ≡ true
  fair_past i past =
      let long : length (justices_of p) ≡ length items = sym (ap length same) ∙ length-map items (item_by nodes) in
      ap (is_met (slots_of p) states) (slice_get_past (justices_of p) i (omega (arith, long, past)))

-- What passes violates the specification.

or_parts : (b c : Bool) → (b || c) ≡ true → (b ≡ true) ⊎ (c ≡ true)
or_parts true c h = inl refl
or_parts false c h = inr h

some_at : {A : Type 0} (test : A → Bool) (xs : List A) (d : A) → list_any test xs ≡ true → (k : ℕ) × (k < length xs) × (test (get_or xs k d) ≡ true)
some_at test [] d h = absurd (let never : ⊥ = cc in never)
some_at test (x ∷ xs) d h = elim (or_parts (test x) (list_any test xs) h) [
  | inl here ↦ (0, omega arith, here)
  | inr there ↦ let r = some_at test xs d there in (suc r.0, omega (arith, r.1), r.2)
]

kept_behind : {A : Type 0} (b : Bool) (y : A) (zs : List A) (x : A) (j : ℕ) → slice_get zs j ≡ Some x → (k : ℕ) × (slice_get (cond b (y ∷ zs) zs) k ≡ Some x)
kept_behind true y zs x j h = (suc j, h)
kept_behind false y zs x j h = (j, h)

kept_first : {A : Type 0} (b : Bool) (y : A) (zs : List A) → b ≡ true → slice_get (cond b (y ∷ zs) zs) 0 ≡ Some y
kept_first true y zs h = refl
kept_first false y zs h = absurd (let never : ⊥ = cc in never)

kept : {A : Type 0} (test : A → Bool) (xs : List A) (k : ℕ) (x : A) → k < length xs → get_or xs k x ≡ x → test x ≡ true → (j : ℕ) × (slice_get (filter test xs) j ≡ Some x)
kept test [] k x h is so = absurd (let never : ⊥ = omega (arith, h) in never)
kept test (y ∷ ys) zero x h is so = (0, kept_first (test y) y (filter test ys) (ap test is ∙ so) ∙ ap (λ z. Some z) is)
kept test (y ∷ ys) (suc k) x h is so = let r = kept test ys k x (omega (arith, h)) is so in kept_behind (test y) y (filter test ys) x r.0 r.1

true_is : (o : Evaluation) → is_true o ≡ true → o ≡ one (value.Bool true)
true_is Nothing h = absurd (let never : ⊥ = cc in never)
true_is (Values []) h = absurd (let never : ⊥ = cc in never)
true_is (Values (value.Bool true ∷ [])) h = refl
true_is (Values (value.Bool false ∷ [])) h = absurd (let never : ⊥ = cc in never)
true_is (Values (value.Int z ∷ [])) h = absurd (let never : ⊥ = cc in never)
true_is (Values (value.Sym n ∷ [])) h = absurd (let never : ⊥ = cc in never)
true_is (Values (value.Word s w b ∷ [])) h = absurd (let never : ⊥ = cc in never)
true_is (Values (v ∷ w ∷ vs)) h = absurd (let never : ⊥ = cc in never)
true_is (Fault f place) h = absurd (let never : ⊥ = cc in never)

module _ (p : Program) (spec : ResolvedItem) (t : Trace) (all : (r : ReplayRule) (i : ℕ) → LassoPasses p spec t r i) where
  abbrev w : Lasso
  w = lasso_told p t

  n_states : length w.states ≡ length t.states
  n_states = length-map t.states _

  n_inputs : length w.inputs ≡ length t.states
  n_inputs = length-map-range_with_len _ 0 (length t.states)

  back_of : (o : Option ℕ) → ((i : ℕ) → goes_back p w.states w.inputs o i ≡ true) → is_loop p w.states w.inputs (unwrap_or o 0) ≡ true
  back_of None h = absurd (both_ways (goes_back p w.states w.inputs None 0) refl (h 0))
  back_of (Some n) h = asked (eqb n n) (is_loop p w.states w.inputs n) (h n) (eq-eqb n n refl)

  back_parts : (ltb w.start (length w.states) ≡ true) × (steps_well p (at_time w.states (length w.states - 1)) (at_time w.inputs (length w.states - 1)) (at_time w.states w.start) ≡ true)
  back_parts =
      and_parts (ltb w.start (length w.states)) (steps_well p (at_time w.states (length w.states - 1)) (at_time w.inputs (length w.states - 1)) (at_time w.states w.start)) (back_of t.start (all rule.Loop))

  begun : (is_first_state p (at_time w.states 0) ≡ true) × (all_faultless First p (at_time w.states 0) [] [] ≡ true)
  begun = well_begun p (at_time w.states 0) (asked (eqb 0 0) (begins_well p (at_time w.states 0)) (all rule.First 0) (eq-eqb 0 0 refl))

  stepped : (i : ℕ) → i + 1 < length w.states → Stepped p (at_time w.states i) (at_time w.inputs i) (at_time w.states (i + 1))
  stepped i below =
      well_stepped p (at_time w.states i) (at_time w.inputs i) (at_time w.states (i + 1))
      (asked (ltb (i + 1) (length w.states)) (steps_well p (at_time w.states i) (at_time w.inputs i) (at_time w.states (i + 1))) (all rule.Step i) (lt-ltb (i + 1) (length w.states) below))

  back : Stepped p (at_time w.states (length w.states - 1)) (at_time w.inputs (length w.states - 1)) (at_time w.states w.start)
  back = well_stepped p (at_time w.states (length w.states - 1)) (at_time w.inputs (length w.states - 1)) (at_time w.states w.start) back_parts.1

  is_lasso : IsLasso p w
  is_lasso = record {
    long = n_states ∙ sym n_inputs;
    inside = ltb-true w.start (length w.states) back_parts.0;
    first = begun.0;
    steps = λ i below. (stepped i below).0;
    back = back.0;
  }

  justice : (x : ResolvedItem) → is_justice x.kind ≡ true → Contains (items_of p) x
      → (j : ℕ) × (w.start ≤ j) × (j < length w.states) × (outcome_in (slots_of p) (at_time w.states j) x.value ≡ one (value.Bool true))
  justice x so within =
      let found = kept (λ (y : ResolvedItem). is_justice y.kind) (items_of p) within.0 x within.1 within.2 so in
      let some : list_any (λ (s : List Value). is_true (outcome_in (slots_of p) s x.value)) (drop w.start w.states) ≡ true =
      ap (is_met (slots_of p) (drop w.start w.states)) (sym found.1) ∙ all rule.Fair found.0 in
      let k = some_at (λ (s : List Value). is_true (outcome_in (slots_of p) s x.value)) (drop w.start w.states) [] some in
      let few = length-drop w.start w.states in (
        w.start + k.0,
        omega arith,
        omega (arith, k.1, few),
        true_is _ (ap (λ (s : List Value). is_true (outcome_in (slots_of p) s x.value)) (sym (get_or-drop w.start w.states k.0 [])) ∙ k.2),
      )

  fair : MeetsJustice p w
  fair x within kind = justice x (ap is_justice kind) within

  pub violates : Violates p spec w
  violates = record { lasso = record { lasso = is_lasso; fair = fair }; false = (all rule.Spec 0 refl).0 }

  pub faultless : IsFaultlessLasso p spec w
  faultless = record {
    run = record {
      first = begun.1;
      each = λ i below.
          (and_parts (meets_invariants p (at_time w.states i)) (all_faultless Always p (at_time w.states i) [] [])
          (asked (ltb i (length w.states)) (stays_well p (at_time w.states i)) (all rule.Inv i) (lt-ltb i (length w.states) below))).1;
      steps = λ i below. (stepped i below).1;
    };
    back = back.1;
    formula = (all rule.Spec 0 refl).1;
  }
