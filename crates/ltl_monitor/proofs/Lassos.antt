-- A lasso violates a formula exactly where its stretch has bits that make a fair monitored lasso.
use Rattle.std.proofs.Common.{◌≡◌, ℕ, zero, suc, ◌+◌, ◌-◌, ◌*◌, ◌<◌, ◌≤◌, inl, inr, max, Bool, true, List, [], ◌∷◌, map, refl, sym, ap, ◌∙◌, subst, arith}
use Rattle.std.specs.Prelude.{nat_lt, if◌then◌else◌}
use Rattle.std.specs.Bool.{Decides}
use Rattle.std.proofs.lemmas.Bool.{cases_Bool, cases_lt}
use Rattle.std.proofs.lemmas.Bool.Decides.{same_from_decides, Decides-like, nat_tests}
use Rattle.ltl_meaning.specs.Ltl.{Ltl, past_unary, past_binary, past_height}
use Rattle.ltl_meaning.specs.Truth.{Moment, Repeats, Satisfies}
use Rattle.ltl_meaning.proofs.Period.{wider, steady, repeats}
use Rattle.ltl_meaning.proofs.Unfolding.{Tells}
use Rattle.ltl_meaning.proofs.Decide.{Decided, decide, told_by, told_decides}
use Rattle.ltl_meaning.proofs.Walk.{walk, walk_stays, walk_turns, walk_inside, walk_visits, walk_rounds}
use Rattle.ltl_monitor.specs.Monitor.{Side, nodes, truth, rows, starts, Set, sets, Each, InLoop, all_sets, IsFairMonitored}
use Rattle.ltl_monitor.specs.FairLasso.{Sequence, along, Loops, Violates, beside, HasMonitor}
use Rattle.ltl_monitor.proofs.FromBits.{Again, from_bits, each_left, each_right, each_join}
use Rattle.ltl_monitor.proofs.ToBits.{bits, Carries, carried, truth_tells, rows_hold, starts_hold, sets_hold}

pub side_eq : (s t : Side) → ((a : ℕ) → s.atom a ≡ t.atom a) → ((k : ℕ) → s.bit k ≡ t.bit k) → s ≡ t
side_eq s t h k = λ i. record { atom = λ a. h a i; bit = λ n. k n i }

same_parts : (F G H K : ℕ → Bool) (a k : ℕ) → ((j : ℕ) → F j ≡ H j) → ((j : ℕ) → G j ≡ K j) → (if nat_lt k a then F k else G (k - a)) ≡ (if nat_lt k a then H k else K (k - a))
same_parts F G H K a k f g = let u = f k in let w = g (k - a) in grind (arith, nat_tests)

pub each_map : {X Y : Type 0} (P : Y → Type 0) (f : X → Y) (xs : List X) → Each (λ x. P (f x)) xs → Each P (map f xs)
each_map P f [] h = tt
each_map P f (x ∷ xs) h = (h.0, each_map P f xs h.1)

pub each_unmap : {X Y : Type 0} (P : Y → Type 0) (f : X → Y) (xs : List X) → Each P (map f xs) → Each (λ x. P (f x)) xs
each_unmap P f [] h = tt
each_unmap P f (x ∷ xs) h = (h.0, each_unmap P f xs h.1)

pub each_weaker : {X : Type 0} (P Q : X → Type 0) → ((x : X) → P x → Q x) → (xs : List X) → Each P xs → Each Q xs
each_weaker P Q w [] h = tt
each_weaker P Q w (x ∷ xs) h = (w x h.0, each_weaker P Q w xs h.1)

-- the values of nodes repeat
module _ (m : ℕ → Moment) (v : Ltl → ℕ → Bool) (tv : (f : Ltl) → Tells (v f) (Satisfies m f)) (start p l : ℕ) (some : 0 < p) (repeat : (a : ℕ) → Repeats p start (m a)) where
  v_repeats : (f : Ltl) → steady start p (past_height f) ≤ l → v f (l + p) ≡ v f l
  v_repeats f h =
      let r = repeats start p m some repeat f l h in
      same_from_decides _ _ (tv f (l + p)) (Decides-like (v f l) r.0 r.1 (tv f l))

  lower : (a b : ℕ) → a ≤ b → steady start p b ≤ l → steady start p a ≤ l
  lower a b h k = let w = wider start p a b h in omega arith

  bits_repeat : (f : Ltl) → steady start p (past_height f) ≤ l → (k : ℕ) → bits v f (l + p) k ≡ bits v f l k
  bits_repeat (Ltl.Constant b) h k = refl
  bits_repeat (Ltl.Atom a) h k = refl
  bits_repeat (Ltl.Unary o f) h k =
      same_parts (bits v f (l + p)) (λ j. v (Ltl.Unary o f) (l + p)) (bits v f l) (λ j. v (Ltl.Unary o f) l) (nodes f) k
      (bits_repeat f (lower (past_height f) (past_unary o + past_height f) (omega arith) h)) (λ j. v_repeats (Ltl.Unary o f) h)
  bits_repeat (Ltl.Binary o f g) h k =
      same_parts (bits v f (l + p)) (λ j. if nat_lt j (nodes g) then bits v g (l + p) j else v (Ltl.Binary o f g) (l + p))
      (bits v f l) (λ j. if nat_lt j (nodes g) then bits v g l j else v (Ltl.Binary o f g) l) (nodes f) k
      (bits_repeat f (lower (past_height f) (past_binary o + max (past_height f) (past_height g)) (omega arith) h))
      (λ j. same_parts (bits v g (l + p)) (λ i. v (Ltl.Binary o f g) (l + p)) (bits v g l) (λ i. v (Ltl.Binary o f g) l) (nodes g) j
      (bits_repeat g (lower (past_height g) (past_binary o + max (past_height f) (past_height g)) (omega arith) h))
      (λ i. v_repeats (Ltl.Binary o f g) h))

module _ (x : Sequence) (l p : ℕ) (loops : Loops x l p) where
  pub loops_many : (c i a : ℕ) → l ≤ i → x (i + c * p) a ≡ x i a
  loops_many zero i a h = let e : i + 0 * p ≡ i = omega arith in ap (λ n. x n a) e
  loops_many (suc c) i a h = let e : i + suc c * p ≡ i + c * p + p = omega arith in
      ap (λ n. x n a) e ∙ loops (i + c * p) a (omega arith) ∙ loops_many c i a h

  atoms_repeat : (a : ℕ) → Repeats p l (along x a)
  atoms_repeat a = λ i h. (λ e. loops i a h ∙ e, λ e. sym (loops i a h) ∙ e)

atoms_decided : (x : Sequence) (a : ℕ) → Decided (along x a)
atoms_decided x a i = elim (cases_Bool (x i a)) [ inl t ↦ inl t | inr f ↦ inr (λ t. cc) ]

module _ (justice : List ℕ) (f : Ltl) (x : Sequence) (n l : ℕ) (inside : l < n) (loops : Loops x l (n - l)) where
  some_pass : 0 < n - l
  some_pass = omega arith

  value : Ltl → ℕ → Bool
  value g i = told_by (decide l (n - l) (along x) some_pass (atoms_repeat x l (n - l) loops) (atoms_decided x) g i)

  value_tells : (g : Ltl) → Tells (value g) (Satisfies (along x) g)
  unfolding value
  value_tells g i = told_decides (decide l (n - l) (along x) some_pass (atoms_repeat x l (n - l) loops) (atoms_decided x) g i)

  own : ℕ → Side
  own = beside x (bits value f)

  own_atoms : (a i : ℕ) → Decides ((own i).atom a) (along x a i)
  unfolding own
  own_atoms a i = (λ h. h, λ h. h)

  carries : (i : ℕ) → Carries value f 0 i (own i).bit
  unfolding own
  carries i = carried value f 0 i (own i).bit (λ k h. let e : 0 + k ≡ k = omega arith in ap (λ j. bits value f i j) e)

  -- a lasso that violates has bits
  pub to_monitor : Violates justice f x n l → HasMonitor justice f x n l (past_height f)
  unfolding own
  to_monitor w =
      let p : ℕ = n - l in
      let big : ℕ = l + past_height f * (n - l) in (
        bits value f,
        record {
          run = record {
            steps = λ i h. rows_hold value (along x) value_tells own own_atoms f 0 carries i;
            first = starts_hold value (along x) value_tells own own_atoms f 0 carries;
            root = elim (cases_Bool (truth f 0 (own 0))) [
              | inl t ↦ absurd (w.false ((truth_tells value (along x) value_tells own own_atoms f 0 carries 0).0 t))
              | inr r ↦ r
            ];
          };
          back =
              let e : n + past_height f * (n - l) - 1 + 1 ≡ l + past_height f * (n - l) + (n - l) = omega arith in
              let around : own (l + past_height f * (n - l) + (n - l)) ≡ own (l + past_height f * (n - l)) =
              side_eq _ _ (λ a. loops (l + past_height f * (n - l)) a (omega arith))
              (bits_repeat (along x) value value_tells l (n - l) (l + past_height f * (n - l)) some_pass (atoms_repeat x l (n - l) loops) f (omega arith)) in
              subst (λ s. rows f 0 (own (n + past_height f * (n - l) - 1)) s) (ap own e ∙ around)
              (rows_hold value (along x) value_tells own own_atoms f 0 carries (n + past_height f * (n - l) - 1));
          fair =
              let e : l + past_height f * (n - l) + (n - l) ≡ n + past_height f * (n - l) = omega arith in
              each_join _ (map (λ a s. s.atom a) justice) _
              (each_map _ (λ a s. s.atom a) justice
              (each_weaker _ _ (λ a j. (j.0 + past_height f * (n - l), omega (arith, j.1), omega (arith, j.2), loops_many x l (n - l) loops (past_height f) j.0 a j.1 ∙ j.3)) justice w.fair))
              (subst (λ k. Each (InLoop own k (l + past_height f * (n - l))) (sets f 0)) e
              (sets_hold value (along x) value_tells own own_atoms l (n - l) (l + past_height f * (n - l)) some_pass (atoms_repeat x l (n - l) loops) f 0 carries (omega arith)));
        },
      )

module _ (justice : List ℕ) (f : Ltl) (s : ℕ → Side) (n l : ℕ) (inside : l < n) (w : IsFairMonitored justice f s n l) where
  -- the state at each time
  abbrev pub around : ℕ → Side
  around i = s (walk n l i)

  pub around_rows : (i : ℕ) → rows f 0 (around i) (around (i + 1))
  around_rows i = elim (cases_lt (walk n l i + 1) n) [
    | inl b ↦ subst (λ k. rows f 0 (s (walk n l i)) (s k)) (sym (walk_stays n l inside i b)) (w.run.steps (walk n l i) b)
    | inr b ↦
        let h = walk_inside n l inside i in
        let e : n - 1 ≡ walk n l i = omega arith in
        subst (λ k. rows f 0 (s (walk n l i)) (s k)) (sym (walk_turns n l inside i b)) (subst (λ k. rows f 0 (s k) (s l)) e w.back)
  ]

  -- a set of the loop holds again, within two rounds
  pub within : (z : Set) → InLoop s n l z → (i : ℕ) → (j : ℕ) × (i ≤ j) × (j < i + (n + n)) × (z (around j) ≡ true)
  within z a i =
      let v = walk_visits n l inside i a.0 a.1 a.2 in
      (v.0, v.1, v.2, ap (λ k. z (s k)) v.3 ∙ a.3)

  -- by the bits the formula is false
  pub not_first : (m : ℕ → Moment) → ((a i : ℕ) → Decides ((around i).atom a) (m a i)) → Satisfies m f 0 → ⊥
  not_first m atoms h =
      let again = each_weaker _ (Again around) (λ z a i. let v = within z a i in (v.0, v.1, v.3)) _ (each_right _ (map (λ a t. t.atom a) justice) _ w.fair) in
      let t : truth f 0 (s 0) ≡ true = (from_bits around m atoms f 0 around_rows w.run.first again 0).1 h in
      let r = w.run.root in cc

module _ (justice : List ℕ) (f : Ltl) (x : Sequence) (n l : ℕ) (inside : l < n) (loops : Loops x l (n - l)) where
  stretched_loops : (k : ℕ) → Loops x (l + k * (n - l)) (n - l)
  stretched_loops k i a h = loops i a (omega arith)

  pub walk_same : (k i a : ℕ) → x (walk (n + k * (n - l)) (l + k * (n - l)) i) a ≡ x i a
  walk_same k i a =
      let r = walk_rounds (n + k * (n - l)) (l + k * (n - l)) (omega arith) i in
      let p : n + k * (n - l) - (l + k * (n - l)) ≡ n - l = omega arith in
      let e : i ≡ walk (n + k * (n - l)) (l + k * (n - l)) i + r.0 * (n - l) = r.1 ∙ ap (λ q. walk (n + k * (n - l)) (l + k * (n - l)) i + r.0 * q) p in
      elim r.2 [
        | inl z ↦ let o : walk (n + k * (n - l)) (l + k * (n - l)) i ≡ i = sym (e ∙ ap (λ c. walk (n + k * (n - l)) (l + k * (n - l)) i + c * (n - l)) z ∙ omega arith) in ap (λ j. x j a) o
        | inr le ↦ sym (ap (λ j. x j a) e ∙ loops_many x l (n - l) loops r.0 (walk (n + k * (n - l)) (l + k * (n - l)) i) a (omega arith))
      ]

  -- a lasso whose stretch, by any number of passes, has bits violates
  pub from_monitor : (k : ℕ) → HasMonitor justice f x n l k → Violates justice f x n l
  from_monitor k w = record {
    fair =
        each_weaker _ _ (λ a j. (
          j.0 - k * (n - l),
          omega (arith, j.1),
          omega (arith, j.1, j.2),
          (let e : j.0 ≡ j.0 - k * (n - l) + k * (n - l) = omega (arith, j.1) in
              sym (ap (λ i. x i a) e ∙ loops_many x l (n - l) loops k (j.0 - k * (n - l)) a (omega (arith, j.1))) ∙ j.3),
        )) justice
        (each_unmap _ (λ a s. s.atom a) justice (each_left _ (map (λ a s. s.atom a) justice) _ w.1.fair));
    false =
        not_first justice f (beside x w.0) (n + k * (n - l)) (l + k * (n - l)) (omega arith) w.1 (along x)
        (λ a i. let e = walk_same k i a in (λ h. sym e ∙ h, λ h. e ∙ h));
  }

-- only the n states of a lasso matter
pub monitored_like : (justice : List ℕ) (f : Ltl) (s t : ℕ → Side) (n l : ℕ) → l < n → ((i : ℕ) → i < n → s i ≡ t i) →
    IsFairMonitored justice f s n l → IsFairMonitored justice f t n l
monitored_like justice f s t n l inside e w = record {
  run = record {
    steps = λ i h. subst (λ u. rows f 0 u (t (i + 1))) (e i (omega arith)) (subst (λ u. rows f 0 (s i) u) (e (i + 1) h) (w.run.steps i h));
    first = subst (λ u. starts f 0 u) (e 0 (omega arith)) w.run.first;
    root = ap (truth f 0) (sym (e 0 (omega arith))) ∙ w.run.root;
  };
  back = subst (λ u. rows f 0 u (t l)) (e (n - 1) (omega arith)) (subst (λ u. rows f 0 (s (n - 1)) u) (e l inside) w.back);
  fair = each_weaker _ _ (λ z j. (j.0, j.1, j.2, ap z (sym (e j.0 j.2)) ∙ j.3)) (all_sets justice f) w.fair;
}
