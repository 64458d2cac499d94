-- A lasso of a system violates a formula exactly where its stretch has bits that make a fair lasso of the monitored
-- one.
use Rattle.std.proofs.Common.{inl, inr, ◌≡◌, ℕ, zero, suc, ◌+◌, ◌-◌, ◌*◌, ◌<◌, ◌≤◌, Bool, true, List, [], ◌∷◌, map, get_or, refl, sym, ap, ◌∙◌, subst, arith}
use Rattle.std.specs.Prelude.{◌↔◌, nat_lt, if◌then◌else◌, All}
use Rattle.std.proofs.lemmas.Bool.{cases_lt}
use Rattle.ltl_meaning.specs.Ltl.{Ltl, past_height}
use Rattle.ltl_meaning.proofs.Walk.{walk, walk_stays, walk_turns, walk_inside, walk_same}
use Rattle.clause_core.specs.declared.literal.Lit.{Lit}
use Rattle.clause_core.specs.Assignments.{Agrees}
use Rattle.clause_core.specs.Systems.{TransitionSystem, Gives, FirstBits, StepBits}
use Rattle.ltl_monitor.specs.Monitor.{Side, Set, Each, rows, starts, truth, all_sets, InLoop, IsFairMonitored}
use Rattle.ltl_monitor.specs.FairLasso.{Sequence, Loops, Violates, beside}
use Rattle.ltl_monitor.specs.States.{value, Extends, shown, justice_of, IsMonitor}
use Rattle.ltl_monitor.specs.Lassos.{IsLasso, IsFair, state_at, word_of, with_bits, HasFairLasso}
use Rattle.ltl_monitor.proofs.Clauses.{literal_from, same_refl, each_all, all_each}
use Rattle.ltl_monitor.proofs.Lassos.{side_eq, to_monitor, from_monitor}
use Rattle.ltl_monitor.proofs.Placed.{yes, no_}

pub state_walk : (n l t : ℕ) → state_at n l t ≡ walk n l t
state_walk n l zero = refl
state_walk n l (suc t) = ap (λ k. if nat_lt (k + 1) n then k + 1 else l) (state_walk n l t)

module _ (n l : ℕ) (inside : l < n) where
  pub state_stays : (i : ℕ) → state_at n l i + 1 < n → state_at n l (i + 1) ≡ state_at n l i + 1
  state_stays i h =
      state_walk n l (i + 1) ∙ walk_stays n l inside i (subst (λ k. k + 1 < n) (state_walk n l i) h) ∙ ap (λ k. k + 1) (sym (state_walk n l i))

  pub state_turns : (i : ℕ) → n ≤ state_at n l i + 1 → state_at n l (i + 1) ≡ l
  state_turns i h = state_walk n l (i + 1) ∙ walk_turns n l inside i (subst (λ k. n ≤ k + 1) (state_walk n l i) h)

  pub state_inside : (i : ℕ) → state_at n l i < n
  state_inside i = subst (λ k. k < n) (sym (state_walk n l i)) (walk_inside n l inside i)

  state_same : (i : ℕ) → i < n → state_at n l i ≡ i
  state_same i h = state_walk n l i ∙ walk_same n l inside i h

  -- the states repeat with the loop
  next_alike : (i j : ℕ) → state_at n l i ≡ state_at n l j → state_at n l (i + 1) ≡ state_at n l (j + 1)
  next_alike i j e = elim (cases_lt (state_at n l i + 1) n) [
    | inl h ↦ state_stays i h ∙ ap (λ k. k + 1) e ∙ sym (state_stays j (subst (λ k. k + 1 < n) e h))
    | inr h ↦ state_turns i h ∙ sym (state_turns j (subst (λ k. n ≤ k + 1) e h))
  ]

  round : (j : ℕ) → state_at n l (l + j + (n - l)) ≡ state_at n l (l + j)
  round zero =
      let e : l + 0 + (n - l) ≡ n - 1 + 1 = omega arith in
      let f : l + 0 ≡ l = omega arith in
      let s : state_at n l (n - 1) ≡ n - 1 = state_same (n - 1) (omega arith) in
      ap (state_at n l) e ∙ state_turns (n - 1) (omega (arith, s)) ∙ sym (ap (state_at n l) f ∙ state_same l inside)
  round (suc j) =
      let e : l + suc j + (n - l) ≡ l + j + (n - l) + 1 = omega arith in
      let f : l + suc j ≡ l + j + 1 = omega arith in
      ap (state_at n l) e ∙ next_alike (l + j + (n - l)) (l + j) (round j) ∙ sym (ap (state_at n l) f)

  pub repeats : (i : ℕ) → l ≤ i → state_at n l (i + (n - l)) ≡ state_at n l i
  repeats i h = let e : l + (i - l) ≡ i = omega arith in subst (λ k. state_at n l (k + (n - l)) ≡ state_at n l k) e (round (i - l))

  pub many : (c i : ℕ) → l ≤ i → state_at n l (i + c * (n - l)) ≡ state_at n l i
  many zero i h = let e : i + 0 * (n - l) ≡ i = omega arith in ap (state_at n l) e
  many (suc c) i h =
      let e : i + suc c * (n - l) ≡ i + c * (n - l) + (n - l) = omega arith in
      ap (state_at n l) e ∙ repeats (i + c * (n - l)) (omega (arith, h)) ∙ many c i h

-- sets and their literals, one by one
module _ (E : ℕ → ℕ → Bool) (S : ℕ → Side) (n l : ℕ) where
  abbrev pub InLoopLit : Lit → Type 0
  InLoopLit q = (j : ℕ) × (l ≤ j) × (j < n) × (value (E j) q ≡ true)

  pair_to : (lits : List Lit) (zs : List Set) → ((j : ℕ) → map (value (E j)) lits ≡ map (λ z. z (S j)) zs) → Each (InLoop S n l) zs → Each InLoopLit lits
  pair_to [] zs h e = tt
  pair_to (q ∷ lits) [] h e = let k = h 0 in absurd cc
  pair_to (q ∷ lits) (z ∷ zs) h e = (
    (e.0.0, e.0.1, e.0.2, (let k = h e.0.0 in let t : value (E e.0.0) q ≡ z (S e.0.0) = cc in t ∙ e.0.3)),
    pair_to lits zs (λ j. (let k = h j in cc)) e.1,
  )

  pair_from : (lits : List Lit) (zs : List Set) → ((j : ℕ) → map (value (E j)) lits ≡ map (λ z. z (S j)) zs) → Each InLoopLit lits → Each (InLoop S n l) zs
  pair_from lits [] h e = tt
  pair_from [] (z ∷ zs) h e = let k = h 0 in absurd cc
  pair_from (q ∷ lits) (z ∷ zs) h e = (
    (e.0.0, e.0.1, e.0.2, (let k = h e.0.0 in let t : z (S e.0.0) ≡ value (E e.0.0) q = cc in t ∙ e.0.3)),
    pair_from lits zs (λ j. (let k = h j in cc)) e.1,
  )

-- only the state bits matter
pub first_like : (sys : TransitionSystem) (x y : ℕ → Bool) → Agrees sys.state_bits x y → FirstBits sys x → FirstBits sys y
first_like sys x y g h = (h.0, λ v lt. h.1 v lt ∙ g v lt, h.2)

pub step_like : (sys : TransitionSystem) (x y x' y' : ℕ → Bool) → Agrees sys.state_bits x x' → Agrees sys.state_bits y y' → StepBits sys x y → StepBits sys x' y'
step_like sys x y x' y' g k h = (h.0, λ v lt. h.1 v lt ∙ g v lt, λ v lt. h.2 v lt ∙ k v lt, h.3)

module _ (sys m : TransitionSystem) (f : Ltl) (atoms : List Lit) (ism : IsMonitor sys f atoms m) (gives : Gives m.state_bits m.fair m.defs)
    (xs values : ℕ → ℕ → Bool) (n l : ℕ) (extend : (i : ℕ) → Extends sys (xs i) (values i)) (lasso : IsLasso sys xs n l) where
  abbrev pub word : Sequence
  word = word_of sys atoms values n l

  abbrev pub justice : List ℕ
  justice = justice_of sys atoms

  abbrev pub h : ℕ
  h = past_height f

  abbrev pub n' : ℕ
  n' = n + h * (n - l)

  abbrev pub l' : ℕ
  l' = l + h * (n - l)

  loops : Loops word l (n - l)
  loops i a lt = ap (λ k. (shown sys atoms (values k) (values k)).atom a) (repeats n l lasso.inside i lt)

  -- a step at each time
  around : (i : ℕ) → StepBits sys (xs (state_at n l i)) (xs (state_at n l (i + 1)))
  around i = elim (cases_lt (state_at n l i + 1) n) [
    | inl b ↦ subst (λ k. StepBits sys (xs (state_at n l i)) (xs k)) (sym (state_stays n l lasso.inside i b)) (lasso.steps (state_at n l i) b)
    | inr b ↦
        let k = state_inside n l lasso.inside i in
        let e : n - 1 ≡ state_at n l i = omega (arith, k, b) in
        subst (λ k. StepBits sys (xs (state_at n l i)) (xs k)) (sym (state_turns n l lasso.inside i b)) (subst (λ k. StepBits sys (xs k) (xs l)) e lasso.back)
  ]

  last_state : state_at n l (n' - 1) ≡ n - 1
  last_state =
      let i = lasso.inside in
      let e : n' - 1 ≡ n - 1 + h * (n - l) = omega (arith, i) in
      ap (state_at n l) e ∙ many n l i h (n - 1) (omega (arith, i)) ∙ state_same n l i (n - 1) (omega (arith, i))

  loop_state : state_at n l l' ≡ l
  loop_state = let i = lasso.inside in many n l i h l (omega arith) ∙ state_same n l i l i

  module _ (b : ℕ → ℕ → Bool) where
    abbrev pub ys : ℕ → ℕ → Bool
    ys i = with_bits sys.state_bits (xs (state_at n l i)) (b i)

    own : (i : ℕ) → Agrees sys.state_bits (xs (state_at n l i)) (ys i)
    own i v lt = sym (yes v sys.state_bits (xs (state_at n l i) v) _ lt)

    owned : (i : ℕ) → Agrees sys.state_bits (ys i) (xs (state_at n l i))
    owned i v lt = sym (own i v lt)

    extends : (i : ℕ) → Extends sys (ys i) (values (state_at n l i))
    extends i = (let e = extend (state_at n l i) in (λ v lt. e.0 v lt ∙ own i v lt, e.1))

    -- what a state shows
    sides : (i : ℕ) → shown sys atoms (values (state_at n l i)) (ys i) ≡ beside word b i
    sides i = side_eq (shown sys atoms (values (state_at n l i)) (ys i)) (beside word b i) (λ a. refl)
        (λ k. no_ (sys.state_bits + k) sys.state_bits _ _ (omega arith) ∙ (let e : sys.state_bits + k - sys.state_bits ≡ k = omega arith in ap (b i) e))

    abbrev pub E : ℕ → ℕ → Bool
    E j = (gives.extends (ys j)).0

    tell : (j : ℕ) → map (value (E j)) m.fair ≡ map (λ z. z (beside word b j)) (all_sets justice f)
    tell j =
        let e = gives.extends (ys j) in
        ism.sets (ys j) (values (state_at n l j)) e.0 (extends j) (e.1, e.2) ∙ ap (λ t. map (λ (z : Set). z t) (all_sets justice f)) (sides j)

    step_to : (i j : ℕ) → StepBits sys (ys i) (ys j) → rows f 0 (beside word b i) (beside word b j) → StepBits m (ys i) (ys j)
    step_to i j st r =
        (ism.step (ys i) (ys j) (values (state_at n l i)) (values (state_at n l j)) (extends i) (extends j)).1
        (st, subst (λ t. rows f 0 t (shown sys atoms (values (state_at n l j)) (ys j))) (sym (sides i)) (subst (λ t. rows f 0 (beside word b i) t) (sym (sides j)) r))

    step_from : (i j : ℕ) → StepBits m (ys i) (ys j) → rows f 0 (beside word b i) (beside word b j)
    step_from i j st =
        let r = ((ism.step (ys i) (ys j) (values (state_at n l i)) (values (state_at n l j)) (extends i) (extends j)).0 st).1 in
        subst (λ t. rows f 0 t (beside word b j)) (sides i) (subst (λ t. rows f 0 (shown sys atoms (values (state_at n l i)) (ys i)) t) (sides j) r)

    back_step : StepBits sys (ys (n' - 1)) (ys l')
    back_step =
        step_like sys (xs (n - 1)) (xs l) (ys (n' - 1)) (ys l')
        (subst (λ k. Agrees sys.state_bits (xs k) (ys (n' - 1))) last_state (own (n' - 1)))
        (subst (λ k. Agrees sys.state_bits (xs k) (ys l')) loop_state (own l')) lasso.back

    lasso_to : IsFairMonitored justice f (beside word b) n' l' → IsLasso m ys n' l' × IsFair m ys n' l'
    lasso_to w = (
      record {
        inside = (let i = lasso.inside in omega (arith, i));
        first =
            (ism.first (ys 0) (values 0) (extends 0)).1
            (first_like sys (xs 0) (ys 0) (own 0) lasso.first, subst (starts f 0) (sym (sides 0)) w.run.first, ap (truth f 0) (sides 0) ∙ w.run.root);
        steps = λ i lt.
            step_to i (i + 1) (step_like sys (xs (state_at n l i)) (xs (state_at n l (i + 1))) (ys i) (ys (i + 1)) (own i) (own (i + 1)) (around i)) (w.run.steps i lt);
        back = step_to (n' - 1) l' back_step w.back;
      },
      (let p = each_all (InLoopLit E (beside word b) n' l') m.fair (pair_to E (beside word b) n' l' m.fair (all_sets justice f) tell w.fair) in
          λ k d lt. (
            (p k d lt).0,
            (p k d lt).1,
            (p k d lt).2,
            (E (p k d lt).0, (gives.extends (ys (p k d lt).0)).1, (gives.extends (ys (p k d lt).0)).2, literal_from (E (p k d lt).0) (get_or m.fair k d) (p k d lt).3),
          )),
    )

    lasso_from : IsLasso m ys n' l' × IsFair m ys n' l' → IsFairMonitored justice f (beside word b) n' l'
    lasso_from w =
        let one = (ism.first (ys 0) (values 0) (extends 0)).0 w.0.first in
        let at : All (InLoopLit E (beside word b) n' l') m.fair = λ k d lt.
        (let q = w.1 k d lt in
        let e = gives.extends (ys q.0) in
        let a = q.3 in
        let same = (gives.one_way a.0 e.0 (λ v vl. a.1 v vl ∙ sym (e.1 v vl)) a.2 e.2).0 k d lt in
        (q.0, q.1, q.2, same_refl (get_or m.fair k d).positive (e.0 (get_or m.fair k d).var) (sym a.3 ∙ same))) in record {
          run = record {
            steps = λ i lt. step_from i (i + 1) (w.0.steps i lt);
            first = subst (starts f 0) (sides 0) one.1;
            root = ap (truth f 0) (sym (sides 0)) ∙ one.2;
          };
          back = step_from (n' - 1) l' w.0.back;
          fair = pair_from E (beside word b) n' l' m.fair (all_sets justice f) tell (all_each (InLoopLit E (beside word b) n' l') m.fair at);
        }

  pub exact : Violates justice f word n l ↔ HasFairLasso sys m xs n l (past_height f)
  exact = (
    λ v. (let w = to_monitor justice f word n l lasso.inside loops v in let t = lasso_to w.0 w.1 in (w.0, t.0, t.1)),
    λ w. from_monitor justice f word n l lasso.inside loops h (w.0, lasso_from w.0 (w.1, w.2)),
  )
