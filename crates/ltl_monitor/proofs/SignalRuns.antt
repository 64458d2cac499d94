-- Runs with more than k signals are those that reach a bad state of the counted system.
use Rattle.std.proofs.Common.{inl, inr, ◌≡◌, ℕ, zero, suc, ◌+◌, ◌-◌, ◌<◌, ◌≤◌, Bool, false, not, ◌&&◌, ◌||◌, List, [], ◌∷◌, map, refl, sym, ap, ◌∙◌, subst, arith}
use Rattle.std.specs.Prelude.{◌↔◌, nat_lt, if◌then◌else◌}
use Rattle.std.proofs.lemmas.Bool.{cases_lt}
use Rattle.ltl_meaning.specs.Ltl.{Ltl}
use Rattle.clause_core.specs.declared.literal.Lit.{Lit}
use Rattle.clause_core.specs.Assignments.{Agrees}
use Rattle.clause_core.specs.Systems.{TransitionSystem, Gives, FirstBits, StepBits, BadBits, ReachedWithin}
use Rattle.ltl_monitor.specs.Monitor.{Side, Set, rows, starts, truth, all_sets, IsMonitored}
use Rattle.ltl_monitor.specs.Signal.{every, seen, signal, count}
use Rattle.ltl_monitor.specs.FairLasso.{Sequence, beside}
use Rattle.ltl_monitor.specs.States.{value, Extends, shown, numbers, justice_of, IsMonitor}
use Rattle.ltl_monitor.specs.Counter.{at_least}
use Rattle.ltl_monitor.specs.Counted.{sets_of, counts, signals, IsCounted}
use Rattle.ltl_monitor.specs.Lassos.{with_bits}
use Rattle.ltl_monitor.specs.Runs.{IsRun, word_along, SignalRun, SignalsWithin, BadWithin, IsCut, IsCutOnto}
use Rattle.ltl_monitor.proofs.Placed.{yes, no_}
use Rattle.ltl_monitor.proofs.Lassos.{side_eq}
use Rattle.ltl_monitor.proofs.BitLassos.{first_like, step_like}
use Rattle.ltl_monitor.proofs.Whole.{numbered, map_twice}
use Rattle.ltl_monitor.proofs.CountedRuns.{told, sides_of, told_sets, kth, run, reaches, bad_at, own_run, bad_counts}

-- sets that hold at the same times, one by one, give as many signals
module _ (s t : ℕ → Side) where
  Paired : List Set → List Set → Type 0
  Paired [] [] = Unit {0}
  Paired [] (w ∷ ws) = ⊥
  Paired (z ∷ zs) [] = ⊥
  Paired (z ∷ zs) (w ∷ ws) = ((i : ℕ) → z (s i) ≡ w (t i)) × Paired zs ws

  paired_from : (zs ws : List Set) → ((i : ℕ) → map (λ z. z (s i)) zs ≡ map (λ w. w (t i)) ws) → Paired zs ws
  unfolding Paired
  paired_from [] [] h = tt
  paired_from [] (w ∷ ws) h = let k = h 0 in absurd cc
  paired_from (z ∷ zs) [] h = let k = h 0 in absurd cc
  paired_from (z ∷ zs) (w ∷ ws) h = (λ i. (let k = h i in cc), paired_from zs ws (λ i. (let k = h i in cc)))

  every_same : (p q : Set → Bool) (zs ws : List Set) → ((z w : Set) → ((i : ℕ) → z (s i) ≡ w (t i)) → p z ≡ q w) → Paired zs ws → every p zs ≡ every q ws
  unfolding Paired
  every_same p q [] [] h e = refl
  every_same p q [] (w ∷ ws) h e = absurd e
  every_same p q (z ∷ zs) [] h e = absurd e
  every_same p q (z ∷ zs) (w ∷ ws) h e = ap (λ b. b && every p zs) (h z w e.0) ∙ ap (λ b. q w && b) (every_same p q zs ws h e.1)

  module _ (zs ws : List Set) (same : Paired zs ws) where
    signal_same : (i : ℕ) → ((z w : Set) → ((j : ℕ) → z (s j) ≡ w (t j)) → seen zs s i z ≡ seen ws t i w) → signal zs s i ≡ signal ws t i
    signal_same i h = every_same (λ z. seen zs s i z || z (s i)) (λ w. seen ws t i w || w (t i)) zs ws
        (λ z w e. ap (λ b. b || z (s i)) (h z w e) ∙ ap (λ b. seen ws t i w || b) (e i)) same

    seen_same : (i : ℕ) (z w : Set) → ((j : ℕ) → z (s j) ≡ w (t j)) → seen zs s i z ≡ seen ws t i w
    unfolding seen
    seen_same zero z w e = refl
    seen_same (suc i) z w e =
        ap (λ b. not b && (seen zs s i z || z (s i))) (signal_same i (seen_same i))
        ∙ ap (λ b. not (signal ws t i) && (b || z (s i))) (seen_same i z w e) ∙ ap (λ b. not (signal ws t i) && (seen ws t i w || b)) (e i)

    count_same : (n : ℕ) → count zs s n ≡ count ws t n
    count_same zero = refl
    count_same (suc n) =
        ap (λ b. if b then count zs s n + 1 else count zs s n) (signal_same n (seen_same n))
        ∙ ap (λ k. if signal ws t n then k + 1 else k) (count_same n)

-- a state that is reached ends a run
pub run_to : (sys : TransitionSystem) (n : ℕ) (x : ℕ → Bool) → ReachedWithin sys n x → (i : ℕ) × (i ≤ n) × (xs : ℕ → ℕ → Bool) × IsRun sys xs i × (xs i ≡ x)
run_to sys zero x h = (0, omega arith, λ j. x, record { first = h; steps = λ j lt. absurd (omega (arith, lt)) }, refl)
run_to sys (suc n) x h = elim h [
  | inl less ↦ let r = run_to sys n x less in (r.0, omega (arith, r.1), r.2, r.3, r.4)
  | inr more ↦
      let r = run_to sys n more.0 more.1 in
      let old : ℕ → ℕ → Bool = r.2 in
      let xs : ℕ → ℕ → Bool = λ j v. if nat_lt j (r.0 + 1) then old j v else x v in
      let before : (j : ℕ) → j ≤ r.0 → xs j ≡ old j = λ j le i v. yes j (r.0 + 1) (old j v) (x v) (omega (arith, le)) i in
      let last : xs (r.0 + 1) ≡ x = λ i v. no_ (r.0 + 1) (r.0 + 1) (old (r.0 + 1) v) (x v) (omega arith) i in
      let is : IsRun sys old r.0 = r.3 in (
        r.0 + 1,
        omega (arith, r.1),
        xs,
        record {
          first = subst (FirstBits sys) (sym (before 0 (omega arith))) is.first;
          steps = λ j lt. elim (cases_lt j r.0) [
            | inl in_old ↦
                subst (λ y. StepBits sys y (xs (j + 1))) (sym (before j (omega (arith, in_old))))
                (subst (λ y. StepBits sys (old j) y) (sym (before (j + 1) (omega (arith, in_old)))) (is.steps j in_old))
            | inr at_end ↦
                let e : r.0 ≡ j = omega (arith, lt, at_end) in
                subst (λ i. StepBits sys (xs i) (xs (i + 1))) e
                (subst (λ y. StepBits sys y (xs (r.0 + 1))) (sym (before r.0 (omega arith) ∙ r.4))
                (subst (λ y. StepBits sys more.0 y) (sym last) more.2))
          ];
        },
        last,
      )
]

module _ (sys m c : TransitionSystem) (f : Ltl) (atoms : List Lit) (k : ℕ) (ism : IsMonitor sys f atoms m) (isc : IsCounted m k c)
    (own_gives : Gives sys.state_bits sys.fair sys.defs) (gives : Gives m.state_bits m.fair m.defs) where
  abbrev pub justice : List ℕ
  justice = justice_of sys atoms

  -- the sets of the monitored system are those of the formula and of JUSTICE
  counts_same : (ys E values : ℕ → ℕ → Bool) (t : ℕ → Side) → ((i : ℕ) → Extends m (ys i) (E i)) → ((i : ℕ) → Extends sys (ys i) (values i)) →
      ((i : ℕ) → shown sys atoms (values i) (ys i) ≡ t i) → (n : ℕ) → count (told_sets m) (sides_of m E) n ≡ count (all_sets justice f) t n
  counts_same ys E values t ext own shows n =
      count_same (sides_of m E) t (told_sets m) (all_sets justice f)
      (paired_from (sides_of m E) t (told_sets m) (all_sets justice f)
      (λ i.
      map_twice (λ (z : Set). z (sides_of m E i)) told (numbers 0 m.fair)
      ∙ numbered (value (E i)) [] m.fair 0 refl
      ∙ ism.sets (ys i) (values i) (E i) (own i) (ext i)
      ∙ ap (λ (u : Side). map (λ (z : Set). z u) (all_sets justice f)) (shows i))) n

  -- from a run with signals to a bad state
  module _ (n : ℕ) (r : SignalRun sys f atoms n (k + 1)) where
    abbrev pub word : Sequence
    word = word_along sys atoms r.values

    abbrev pub ys : ℕ → ℕ → Bool
    ys i = with_bits sys.state_bits (r.xs i) (r.bits i)

    own : (i : ℕ) → Agrees sys.state_bits (r.xs i) (ys i)
    own i v lt = sym (yes v sys.state_bits (r.xs i v) _ lt)

    pub extends : (i : ℕ) → Extends sys (ys i) (r.values i)
    extends i = (let e = r.extends i in (λ v lt. e.0 v lt ∙ own i v lt, e.1))

    sides : (i : ℕ) → shown sys atoms (r.values i) (ys i) ≡ beside word r.bits i
    sides i = side_eq (shown sys atoms (r.values i) (ys i)) (beside word r.bits i) (λ a. refl)
        (λ j. no_ (sys.state_bits + j) sys.state_bits _ _ (omega arith) ∙ (let e : sys.state_bits + j - sys.state_bits ≡ j = omega arith in ap (r.bits i) e))

    abbrev pub E : ℕ → ℕ → Bool
    E i = (gives.extends (ys i)).0

    pub ext : (i : ℕ) → Extends m (ys i) (E i)
    ext i = (let g = gives.extends (ys i) in (g.1, g.2))

    is_first : FirstBits m (ys 0)
    is_first = (ism.first (ys 0) (r.values 0) (extends 0)).1
        (first_like sys (r.xs 0) (ys 0) (own 0) r.run.first, subst (starts f 0) (sym (sides 0)) r.signals.run.first, ap (truth f 0) (sides 0) ∙ r.signals.run.root)

    is_step : (i : ℕ) → i < n → StepBits m (ys i) (ys (i + 1))
    is_step i lt =
        (ism.step (ys i) (ys (i + 1)) (r.values i) (r.values (i + 1)) (extends i) (extends (i + 1))).1 (
          step_like sys (r.xs i) (r.xs (i + 1)) (ys i) (ys (i + 1)) (own i) (own (i + 1)) (r.run.steps i lt),
          subst (λ u. rows f 0 u (shown sys atoms (r.values (i + 1)) (ys (i + 1)))) (sym (sides i))
              (subst (λ u. rows f 0 (beside word r.bits i) u) (sym (sides (i + 1))) (r.signals.run.steps i (omega (arith, lt)))),
        )

    pub bad_there : (i : ℕ) × (i ≤ n) × BadWithin c i
    bad_there =
        let same : count (told_sets m) (sides_of m E) (n + 1) ≡ count (all_sets justice f) (beside word r.bits) (n + 1) =
        counts_same ys E r.values (beside word r.bits) ext extends sides (n + 1) in
        let h = r.signals.counted in
        let w = kth (told_sets m) (sides_of m E) k (n + 1) (omega (arith, h, same)) in (
          w.0,
          omega (arith, w.1),
          (
            run m c k isc ys E ext w.0,
            reaches m c k isc ys E ext is_first w.0 (λ t lt. is_step t (omega (arith, lt, w.1))),
            bad_at m c k isc ys E ext w.0 w.2 w.3,
          ),
        )

  -- from a run of the counted system to one with signals
  module _ (ys : ℕ → ℕ → Bool) (n : ℕ) (is_run : IsRun c ys n) where
    abbrev pub E' : ℕ → ℕ → Bool
    E' i = (gives.extends (ys i)).0

    pub ext' : (i : ℕ) → Extends m (ys i) (E' i)
    ext' i = (let g = gives.extends (ys i) in (g.1, g.2))

    abbrev pub values : ℕ → ℕ → Bool
    values i = (own_gives.extends (ys i)).0

    pub extends' : (i : ℕ) → Extends sys (ys i) (values i)
    extends' i = (let g = own_gives.extends (ys i) in (g.1, g.2))

    abbrev pub bits : ℕ → ℕ → Bool
    bits i j = ys i (sys.state_bits + j)

    abbrev pub t : ℕ → Side
    t = beside (word_along sys atoms values) bits

    middle : IsRun m ys n
    middle = own_run m c k isc ys E' ext' n is_run

    is_monitored : IsMonitored f t (n + 1)
    is_monitored =
        let first = (ism.first (ys 0) (values 0) (extends' 0)).0 middle.first in record {
          steps = λ i lt. ((ism.step (ys i) (ys (i + 1)) (values i) (values (i + 1)) (extends' i) (extends' (i + 1))).0 (middle.steps i (omega (arith, lt)))).1;
          first = first.1;
          root = first.2;
        }

    pub signal_run : k + 1 ≤ count (told_sets m) (sides_of m E') (suc n) → SignalRun sys f atoms n (k + 1)
    signal_run h = record {
      xs = ys;
      values = values;
      bits = bits;
      run = record {
        first = ((ism.first (ys 0) (values 0) (extends' 0)).0 middle.first).0;
        steps = λ i lt. ((ism.step (ys i) (ys (i + 1)) (values i) (values (i + 1)) (extends' i) (extends' (i + 1))).0 (middle.steps i lt)).0;
      };
      extends = extends';
      signals = record {
        some = omega arith;
        run = is_monitored;
        counted =
            let same = counts_same ys E' values t ext' extends' (λ i. refl) (suc n) in
            let e : suc n ≡ n + 1 = omega arith in
            subst (λ i. k + 1 ≤ count (all_sets justice f) t i) e (omega (arith, h, same));
      };
    }

  within_more : (i n : ℕ) (x : ℕ → Bool) → i ≤ n → ReachedWithin c i x → ReachedWithin c n x
  within_more i zero x le h = let e : i ≡ 0 = omega (arith, le) in subst (λ j. ReachedWithin c j x) e h
  within_more i (suc n) x le h = elim (cases_lt n i) [
    | inl over ↦ let e : i ≡ suc n = omega (arith, le, over) in subst (λ j. ReachedWithin c j x) e h
    | inr inside ↦ inl (within_more i n x inside h)
  ]

  pub exact : (n : ℕ) → SignalsWithin sys f atoms n (k + 1) ↔ BadWithin c n
  exact n = (
    λ w. (let b = bad_there w.0 w.2 in (b.2.0, within_more b.0 n b.2.0 (omega (arith, b.1, w.1)) b.2.1, b.2.2)),
    λ b.
        (let r = run_to c n b.0 b.1 in
        let bad = subst (BadBits c) (sym r.4) b.2 in
        (r.0, r.1, signal_run r.2 r.0 r.3 (bad_counts m c k isc r.2 (E' r.2 r.0 r.3) (ext' r.2 r.0 r.3) r.0 r.3 bad))),
  )

-- a counter up to one more has the bits of the one before, and one after them
pub counter_grows : (m c d : TransitionSystem) (k : ℕ) → IsCounted m k c → IsCounted m (k + 1) d → Gives m.state_bits m.fair m.defs → IsCut c d
counter_grows m c d k old new gives = record {
  bits = omega (arith, old.bits, new.bits);
  first = λ x h. (let w = (new.first x).0 h in (old.first x).1 (w.0, λ j lt. w.1 j (omega (arith, lt))));
  step = λ x y h.
      (let g = gives.extends x in
      let w = (new.step x y g.0 (g.1, g.2)).0 h in
      (old.step x y g.0 (g.1, g.2)).1 (w.0, w.1, λ j lt. w.2 j (omega (arith, lt))));
}

-- and all initial states and steps of the one before are there
module _ (m c d : TransitionSystem) (k : ℕ) (old : IsCounted m k c) (new : IsCounted m (k + 1) d) (gives : Gives m.state_bits m.fair m.defs) where
  own_bits : (x z : ℕ → Bool) → Agrees c.state_bits x z → Agrees m.state_bits x z
  own_bits x z g v lt = g v (let b = old.bits in omega (arith, b, lt))

  -- a state of the new counter, by one of the old and the last bit
  last : (ℕ → Bool) → Bool → ℕ → Bool
  last x b = with_bits c.state_bits x (λ j. b)

  last_old : (x : ℕ → Bool) (b : Bool) → Agrees c.state_bits x (last x b)
  unfolding last
  last_old x b v lt = sym (yes v c.state_bits (x v) b lt)

  last_new : (x : ℕ → Bool) (b : Bool) → counts m (last x b) k ≡ b
  unfolding last
  last_new x b = no_ (m.state_bits + (sets_of m + k)) c.state_bits (x (m.state_bits + (sets_of m + k))) b (let e = old.bits in omega (arith, e))

  onto_first : (x : ℕ → Bool) → FirstBits c x → FirstBits d (last x false)
  onto_first x h =
      let w = (old.first x).0 h in
      (new.first (last x false)).1 (
        first_like m x (last x false) (own_bits x (last x false) (last_old x false)) w.0,
        λ j lt. elim (cases_lt j (sets_of m + k)) [
          | inl a ↦ sym (last_old x false (m.state_bits + j) (let b = old.bits in omega (arith, b, a))) ∙ w.1 j a
          | inr a ↦ (let e : sets_of m + k ≡ j = omega (arith, a, lt) in subst (λ i. last x false (m.state_bits + i) ≡ false) e (last_new x false))
        ],
      )

  onto_step : (x y z : ℕ → Bool) → Agrees c.state_bits x z → StepBits c x y → (w : ℕ → Bool) × Agrees c.state_bits y w × StepBits d z w
  onto_step x y z g h =
      let v = gives.extends z in
      let more : Bool = counts m z k || (at_least (counts m z) k && signals m z v.0) in
      let w = last y more in
      let r = (old.step z w v.0 (v.1, v.2)).0 (step_like c x y z w g (last_old y more) h) in (
        w,
        last_old y more,
        (new.step z w v.0 (v.1, v.2)).1 (
          r.0,
          r.1,
          λ j lt. elim (cases_lt j k) [
            | inl a ↦ r.2 j a
            | inr a ↦ (let e : k ≡ j = omega (arith, a, lt) in subst (λ i. counts m w i ≡ (counts m z i || (at_least (counts m z) i && signals m z v.0))) e (last_new y more))
          ],
        ),
      )

  pub counter_onto : IsCutOnto c d
  counter_onto = record { first = λ x h. (last x false, last_old x false, onto_first x h); step = onto_step }
