-- Runs of the monitored system beside runs of the counted one: marks are the sets seen, and the counter is the count.
use Rattle.std.proofs.Common.{inl, inr, ◌≡◌, ℕ, zero, suc, ◌+◌, ◌-◌, ◌<◌, ◌≤◌, Bool, true, false, not, ◌&&◌, ◌||◌, List, [], ◌∷◌, map, length, refl, sym, ap, ◌∙◌, subst, arith}
use Rattle.std.specs.Prelude.{nat_lt, if◌then◌else◌}
use Rattle.std.proofs.lemmas.Bool.{cases_Bool, cases_lt, and_from, and_parts}
use Rattle.std.proofs.lemmas.Bool.Decides.{nat_tests}
use Rattle.clause_core.specs.declared.literal.Lit.{Lit}
use Rattle.clause_core.specs.Assignments.{Agrees}
use Rattle.clause_core.specs.Systems.{TransitionSystem, FirstBits, StepBits, BadBits, ReachedWithin}
use Rattle.ltl_monitor.specs.Monitor.{Side, Set}
use Rattle.ltl_monitor.specs.Signal.{every, seen, signal, count}
use Rattle.ltl_monitor.specs.States.{Extends, numbers}
use Rattle.ltl_monitor.specs.Counter.{fires, at_least}
use Rattle.ltl_monitor.specs.Counted.{holds, marks, counts, signals, IsCounted}
use Rattle.ltl_monitor.specs.Lassos.{with_bits}
use Rattle.ltl_monitor.specs.Runs.{IsRun}
use Rattle.ltl_monitor.proofs.Placed.{yes, no_}
use Rattle.ltl_monitor.proofs.Counts.{fires_like, at_least_like}
use Rattle.ltl_monitor.proofs.BitLassos.{first_like, step_like}

-- the sets that are told by the atoms with these numbers
abbrev pub told : ℕ → Set
told j s = s.atom j

assoc : (a b c : Bool) → (a && (b && c)) ≡ ((a && b) && c)
assoc true b c = refl
assoc false b c = refl

-- each of a list of numbered sets, from number j on, after those before it
fires_on : (g : Set → Bool) (s : Side) (ls : List Lit) (j : ℕ) →
    (fires (λ i. g (told i)) (λ i. told i s) j && every (λ z. g z || z s) (map told (numbers j ls))) ≡ fires (λ i. g (told i)) (λ i. told i s) (j + length ls)
fires_on g s [] j = with_true (fires (λ i. g (told i)) (λ i. told i s) j) ∙ (let e : j ≡ j + 0 = omega arith in ap (fires (λ i. g (told i)) (λ i. told i s)) e)
  where
    with_true : (b : Bool) → (b && true) ≡ b
    with_true true = refl
    with_true false = refl
fires_on g s (l ∷ ls) j =
    let F : ℕ → Bool = fires (λ i. g (told i)) (λ i. told i s) in
    let e : suc j ≡ j + 1 = omega arith in
    let k : j + 1 + length ls ≡ j + suc (length ls) = omega arith in
    assoc (F j) (g (told j) || told j s) (every (λ z. g z || z s) (map told (numbers (j + 1) ls)))
    ∙ ap (λ i. F i && every (λ z. g z || z s) (map told (numbers (j + 1) ls))) e
    ∙ fires_on g s ls (j + 1) ∙ ap F k

-- the first time with k signals before it and one now
pub kth : (zs : List Set) (s : ℕ → Side) (k n : ℕ) → k + 1 ≤ count zs s n → (i : ℕ) × (i < n) × (count zs s i ≡ k) × (signal zs s i ≡ true)
kth zs s k zero h = absurd (omega (arith, h))
kth zs s k (suc n) h = elim (cases_lt k (count zs s n)) [
  | inl more ↦ let r = kth zs s k n (omega (arith, more)) in (r.0, omega (arith, r.1), r.2, r.3)
  | inr less ↦ elim (cases_Bool (signal zs s n)) [
    | inl t ↦ let e : count zs s (suc n) ≡ count zs s n + 1 = (rw t refl) in (n, omega arith, omega (arith, e, h, less), t)
    | inr f ↦ let e : count zs s (suc n) ≡ count zs s n = (rw f refl) in absurd (omega (arith, e, h, less))
  ]
]

-- the counter's bits, by the count
rises : (n j : ℕ) → nat_lt j (n + 1) ≡ (nat_lt j n || (at_least (λ i. nat_lt i n) j && true))
rises n zero = grind (arith, nat_tests)
rises n (suc j) = grind (arith, nat_tests)

stays : (x y : Bool) → x ≡ (x || (y && false))
stays true y = refl
stays false true = refl
stays false false = refl

count_row : (zs : List Set) (s : ℕ → Side) (i j : ℕ) →
    nat_lt j (count zs s (suc i)) ≡ (nat_lt j (count zs s i) || (at_least (λ b. nat_lt b (count zs s i)) j && signal zs s i))
count_row zs s i j = elim (cases_Bool (signal zs s i)) [
  | inl t ↦
      let e : count zs s (suc i) ≡ count zs s i + 1 = (rw t refl) in
      ap (nat_lt j) e ∙ rises (count zs s i) j ∙ ap (λ b. nat_lt j (count zs s i) || (at_least (λ c. nat_lt c (count zs s i)) j && b)) (sym t)
  | inr f ↦
      let e : count zs s (suc i) ≡ count zs s i = (rw f refl) in
      ap (nat_lt j) e ∙ stays (nat_lt j (count zs s i)) (at_least (λ c. nat_lt c (count zs s i)) j)
      ∙ ap (λ b. nat_lt j (count zs s i) || (at_least (λ c. nat_lt c (count zs s i)) j && b)) (sym f)
]

reached_at : (k : ℕ) → at_least (λ b. nat_lt b k) k ≡ true
reached_at zero = refl
reached_at (suc k) = grind (arith, nat_tests)

none_at : (j : ℕ) → nat_lt j 0 ≡ false
none_at j = grind (arith, nat_tests)

full_from : (n k : ℕ) → at_least (λ b. nat_lt b n) k ≡ true → k ≤ n
full_from n zero h = omega arith
full_from n (suc k) h = grind (arith, nat_tests)

-- what the states of a run show, by their values, and the sets that their fairness literals tell
abbrev pub sides_of : TransitionSystem → (ℕ → ℕ → Bool) → ℕ → Side
sides_of m E t = record { atom = holds m (E t); bit = λ j. false }

abbrev pub told_sets : TransitionSystem → List Set
told_sets m = map told (numbers 0 m.fair)

-- the states of a run of the monitored system, and the values of each
module _ (m c : TransitionSystem) (k : ℕ) (isc : IsCounted m k c) (ys E : ℕ → ℕ → Bool) (ext : (t : ℕ) → Extends m (ys t) (E t)) where
  abbrev pub z : ℕ
  z = length m.fair

  abbrev pub s : ℕ → Side
  s = sides_of m E

  abbrev pub zs : List Set
  zs = told_sets m

  seen_none : (y : Set) → seen zs s 0 y ≡ false
  unfolding seen
  seen_none y = refl

  seen_more : (t : ℕ) (y : Set) → seen zs s (suc t) y ≡ (not (signal zs s t) && (seen zs s t y || y (s t)))
  unfolding seen
  seen_more t y = refl

  -- marks that are the sets seen make the counted system's signal the signal
  signal_by : (t : ℕ) (x : ℕ → Bool) → ((j : ℕ) → j < z → marks m x j ≡ seen zs s t (told j)) → signals m x (E t) ≡ signal zs s t
  signal_by t x mark_at =
      fires_like z (marks m x) (λ j. seen zs s t (told j)) (holds m (E t)) (λ j. told j (s t)) mark_at (λ j lt. refl)
      ∙ sym (fires_on (seen zs s t) (s t) m.fair 0 ∙ (let e : 0 + z ≡ z = omega arith in ap (fires (λ i. seen zs s t (told i)) (λ i. told i (s t))) e))

  -- the run of the counted system beside it
  extra : ℕ → ℕ → Bool
  extra t j = if nat_lt j z then seen zs s t (told j) else nat_lt (j - z) (count zs s t)

  pub run : ℕ → ℕ → Bool
  run t = with_bits m.state_bits (ys t) (extra t)

  own : (t : ℕ) → Agrees m.state_bits (ys t) (run t)
  unfolding run
  own t v lt = sym (yes v m.state_bits (ys t v) _ lt)

  run_extra : (t j : ℕ) → run t (m.state_bits + j) ≡ extra t j
  unfolding run
  run_extra t j = no_ (m.state_bits + j) m.state_bits _ _ (omega arith) ∙ (let e : m.state_bits + j - m.state_bits ≡ j = omega arith in ap (extra t) e)

  mark_at : (t j : ℕ) → j < z → marks m (run t) j ≡ seen zs s t (told j)
  unfolding extra
  mark_at t j lt = run_extra t j ∙ yes j z _ _ lt

  count_at : (t j : ℕ) → counts m (run t) j ≡ nat_lt j (count zs s t)
  unfolding extra
  count_at t j = run_extra t (z + j) ∙ no_ (z + j) z _ _ (omega arith) ∙ (let e : z + j - z ≡ j = omega arith in ap (λ i. nat_lt i (count zs s t)) e)

  extends : (t : ℕ) → Extends m (run t) (E t)
  extends t = (let g = ext t in (λ v lt. g.0 v lt ∙ own t v lt, g.1))

  signal_at : (t : ℕ) → signals m (run t) (E t) ≡ signal zs s t
  signal_at t = signal_by t (run t) (mark_at t)

  run_first : FirstBits m (ys 0) → FirstBits c (run 0)
  run_first first = (isc.first (run 0)).1 (
    first_like m (ys 0) (run 0) (own 0) first,
    λ j lt. elim (cases_lt j z) [
      | inl a ↦ mark_at 0 j a ∙ seen_none (told j)
      | inr a ↦ (let e : z + (j - z) ≡ j = omega (arith, a) in sym (ap (λ i. run 0 (m.state_bits + i)) e) ∙ count_at 0 (j - z) ∙ none_at (j - z))
    ],
  )

  run_step : (t : ℕ) → StepBits m (ys t) (ys (suc t)) → StepBits c (run t) (run (suc t))
  run_step t step =
      (isc.step (run t) (run (suc t)) (E t) (extends t)).1 (
        step_like m (ys t) (ys (suc t)) (run t) (run (suc t)) (own t) (own (suc t)) step,
        λ j lt.
            mark_at (suc t) j lt ∙ seen_more t (told j)
            ∙ ap (λ b. not b && (seen zs s t (told j) || told j (s t))) (sym (signal_at t))
            ∙ ap (λ b. not (signals m (run t) (E t)) && (b || told j (s t))) (sym (mark_at t j lt)),
        λ j lt.
            count_at (suc t) j ∙ count_row zs s t j
            ∙ ap (λ b. b || (at_least (λ i. nat_lt i (count zs s t)) j && signal zs s t)) (sym (count_at t j))
            ∙ ap (λ b. counts m (run t) j || (b && signal zs s t)) (sym (at_least_like j (counts m (run t)) (λ i. nat_lt i (count zs s t)) (λ i li. count_at t i)))
            ∙ ap (λ b. counts m (run t) j || (at_least (counts m (run t)) j && b)) (sym (signal_at t)),
      )

  pub reaches : FirstBits m (ys 0) → (n : ℕ) → ((t : ℕ) → t < n → StepBits m (ys t) (ys (t + 1))) → ReachedWithin c n (run n)
  reaches first zero steps = run_first first
  reaches first (suc n) steps =
      let e : n + 1 ≡ suc n = omega arith in
      let step : StepBits m (ys n) (ys (suc n)) = subst (λ i. StepBits m (ys n) (ys i)) e (steps n (omega arith)) in
      inr (run n, reaches first n (λ t lt. steps t (omega (arith, lt))), run_step n step)

  -- a bad state where the count is k and there is a signal
  pub bad_at : (t : ℕ) → count zs s t ≡ k → signal zs s t ≡ true → BadBits c (run t)
  bad_at t full now =
      (isc.bad (run t) (E t) (extends t)).1
      (and_from (signals m (run t) (E t)) _ (signal_at t ∙ now)
      (at_least_like k (counts m (run t)) (λ i. nat_lt i (count zs s t)) (λ i li. count_at t i)
      ∙ ap (λ q. at_least (λ i. nat_lt i q) k) full ∙ reached_at k))

  -- the states are those of a run of the counted system
  module _ (n : ℕ) (is_run : IsRun c ys n) where
    -- at a time, the marks are the sets seen and the counter is the count
    pub record Tells (t : ℕ) : Type 0 where
      pub marked : (j : ℕ) → j < z → marks m (ys t) j ≡ seen zs s t (told j)
      pub counted : (j : ℕ) → j < k → counts m (ys t) j ≡ nat_lt j (count zs s t)

    tells_next : (t : ℕ) → StepBits c (ys t) (ys (suc t)) → Tells t → Tells (suc t)
    tells_next t step h =
        let r = (isc.step (ys t) (ys (suc t)) (E t) (ext t)).0 step in
        let now : signals m (ys t) (E t) ≡ signal zs s t = signal_by t (ys t) h.marked in record {
          marked = λ j lt.
              r.1 j lt
              ∙ ap (λ b. not b && (marks m (ys t) j || told j (s t))) now
              ∙ ap (λ b. not (signal zs s t) && (b || told j (s t))) (h.marked j lt)
              ∙ sym (seen_more t (told j));
          counted = λ j lt.
              r.2 j lt
              ∙ ap (λ b. b || (at_least (counts m (ys t)) j && signals m (ys t) (E t))) (h.counted j lt)
              ∙ ap (λ b. nat_lt j (count zs s t) || (b && signals m (ys t) (E t))) (at_least_like j (counts m (ys t)) (λ i. nat_lt i (count zs s t)) (λ i li. h.counted i (omega (arith, li, lt))))
              ∙ ap (λ b. nat_lt j (count zs s t) || (at_least (λ i. nat_lt i (count zs s t)) j && b)) now
              ∙ sym (count_row zs s t j);
        }

    tells : (t : ℕ) → t ≤ n → Tells t
    tells zero le =
        let r = (isc.first (ys 0)).0 is_run.first in record {
          marked = λ j lt. r.1 j (omega (arith, lt)) ∙ sym (seen_none (told j));
          counted = λ j lt. r.1 (z + j) (omega (arith, lt)) ∙ sym (none_at j);
        }
    tells (suc t) le =
        let e : t + 1 ≡ suc t = omega arith in
        tells_next t (subst (λ i. StepBits c (ys t) (ys i)) e (is_run.steps t (omega (arith, le)))) (tells t (omega (arith, le)))

    pub own_run : IsRun m ys n
    own_run = record {
      first = ((isc.first (ys 0)).0 is_run.first).0;
      steps = λ t lt. ((isc.step (ys t) (ys (t + 1)) (E t) (ext t)).0 (is_run.steps t lt)).0;
    }

    -- where the last state is bad, there are more than k signals
    pub bad_counts : BadBits c (ys n) → k + 1 ≤ count zs s (suc n)
    bad_counts bad =
        let h = tells n (omega arith) in
        let b = and_parts (signals m (ys n) (E n)) _ ((isc.bad (ys n) (E n) (ext n)).0 bad) in
        let now : signal zs s n ≡ true = sym (signal_by n (ys n) h.marked) ∙ b.0 in
        let full : at_least (λ i. nat_lt i (count zs s n)) k ≡ true =
        sym (at_least_like k (counts m (ys n)) (λ i. nat_lt i (count zs s n)) (λ i li. h.counted i li)) ∙ b.1 in
        let more : count zs s (suc n) ≡ count zs s n + 1 = (rw now refl) in
        let le : k ≤ count zs s n = full_from (count zs s n) k full in
        omega (arith, more, le)
