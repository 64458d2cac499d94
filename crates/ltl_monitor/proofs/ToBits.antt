-- The truth of a formula's nodes on a loop meets the rules, and each set holds within one pass.
use Rattle.std.proofs.Common.{◌≡◌, ℕ, zero, suc, ◌+◌, ◌-◌, ◌<◌, ◌≤◌, ◌⊎◌, inl, inr, max, Bool, true, false, not, ◌&&◌, ◌||◌, ap, ◌∙◌, subst, arith}
use Rattle.std.specs.Prelude.{◌↔◌, nat_lt, if◌then◌else◌}
use Rattle.std.specs.Bool.{Decides}
use Rattle.std.proofs.lemmas.Bool.{cases_Bool, cases_lt, or_left, or_right, not_from_false}
use Rattle.std.proofs.lemmas.Bool.Decides.{Decides-at, Decides-like, Decides-not, Decides-and, Decides-or, same_from_decides, nat_tests}
use Rattle.ltl_meaning.specs.declared.node.UnaryOperator.{UnaryOperator}
use Rattle.ltl_meaning.specs.declared.node.BinaryOperator.{BinaryOperator}
use Rattle.ltl_meaning.specs.Ltl.{Ltl, past_unary, past_binary, past_height}
use Rattle.ltl_meaning.specs.Truth.{Moment, Repeats, Until, Releases, Yesterday, WeakYesterday, Since, Triggered, unary_truth, binary_truth, Satisfies}
use Rattle.ltl_meaning.proofs.Period.{up, down, wider, from_later, steady, repeats}
use Rattle.ltl_meaning.proofs.Unfolding.{Tells, until_unfolds, releases_unfolds, releases_now, since_starts, since_unfolds, triggered_starts, triggered_next, triggered_now, both, finally_until, globally_releases, once_since, historically_triggered, always, never}
use Rattle.ltl_meaning.proofs.Decide.{all_below}
use Rattle.ltl_monitor.specs.Monitor.{Side, nodes, unary_bits, binary_bits, unary_now, binary_now, truth, unary_row, binary_row, rows, unary_start, binary_start, starts, Set, unary_sets, binary_sets, sets, Each, InLoop}
use Rattle.ltl_monitor.proofs.FromBits.{Decides-same, Decides-xor, Decides-implies, each_join}

module _ (P Q : Moment) (b x y : ℕ → Bool) (tp : Tells x P) (tq : Tells y Q) where
  until_row : Tells b (Until P Q) → (i : ℕ) → b i ≡ (y i || (x i && b (i + 1)))
  until_row tb i =
      same_from_decides (b i) _ (tb i)
      (Decides-like _ (until_unfolds P Q i).1 (until_unfolds P Q i).0 (Decides-or _ _ (tq i) (Decides-and _ _ (tp i) (tb (i + 1)))))

  releases_row : Tells b (Releases P Q) → (i : ℕ) → b i ≡ (y i && (x i || b (i + 1)))
  releases_row tb i =
      same_from_decides (b i) _ (tb i) (both P Q b x y tp tq i (b (i + 1)) (releases_unfolds P Q i) (releases_now P Q i) (tb (i + 1)))

  since_start : Tells b (Since P Q) → b 0 ≡ y 0
  since_start tb = same_from_decides (b 0) (y 0) (tb 0) (Decides-like (y 0) (since_starts P Q).1 (since_starts P Q).0 (tq 0))

  since_row : Tells b (Since P Q) → (i : ℕ) → b (i + 1) ≡ (y (i + 1) || (x (i + 1) && b i))
  since_row tb i =
      same_from_decides (b (i + 1)) _ (tb (i + 1))
      (Decides-like _ (since_unfolds P Q i).1 (since_unfolds P Q i).0 (Decides-or _ _ (tq (i + 1)) (Decides-and _ _ (tp (i + 1)) (tb i))))

  triggered_start : Tells b (Triggered P Q) → b 0 ≡ y 0
  triggered_start tb = same_from_decides (b 0) (y 0) (tb 0) (Decides-like (y 0) (triggered_starts P Q).1 (triggered_starts P Q).0 (tq 0))

  triggered_row : Tells b (Triggered P Q) → (i : ℕ) → b (i + 1) ≡ (y (i + 1) && (x (i + 1) || b i))
  triggered_row tb i =
      same_from_decides (b (i + 1)) _ (tb (i + 1)) (both P Q b x y tp tq (i + 1) (b i) (triggered_next P Q i) (triggered_now P Q i) (tb i))

  module _ (p l : ℕ) (some : 0 < p) (rq : Repeats p l Q) where
    into_loop : (fuel j : ℕ) → j ≤ fuel → l ≤ j → Q j → (k : ℕ) × (l ≤ k) × (k < l + p) × Q k
    into_loop zero j h le q = (j, le, omega arith, q)
    into_loop (suc fuel) j h le q = elim (cases_lt j (l + p)) [
      | inl c ↦ (j, le, c, q)
      | inr c ↦ into_loop fuel (j - p) (omega arith) (omega arith) (down p Q l rq j c q)
    ]

    beyond_loop : ((k : ℕ) → k < p → Q (l + k)) → (fuel j : ℕ) → j ≤ fuel → l ≤ j → Q j
    beyond_loop all zero j h le = let e : l + 0 ≡ j = omega arith in subst Q e (all 0 some)
    beyond_loop all (suc fuel) j h le = elim (cases_lt j (l + p)) [
      | inl c ↦ let e : l + (j - l) ≡ j = omega arith in subst Q e (all (j - l) (omega arith))
      | inr c ↦ up p Q l rq j c (beyond_loop all fuel (j - p) (omega arith) (omega arith))
    ]

    until_set : Tells b (Until P Q) → (j : ℕ) × (l ≤ j) × (j < l + p) × ((not (b j) || y j) ≡ true)
    until_set tb = elim (cases_Bool (b l)) [
      | inr f ↦ (l, omega arith, omega arith, or_left (not (b l)) _ (not_from_false (b l) f))
      | inl t ↦ let u = (tb l).0 t in
          let w = into_loop u.0 u.0 (omega arith) u.1 u.2 in
          (w.0, w.1, w.2, or_right (not (b w.0)) _ ((tq w.0).1 w.3))
    ]

    decided_here : (k : ℕ) → Q (l + k) ⊎ (Q (l + k) → ⊥)
    decided_here k = elim (cases_Bool (y (l + k))) [
      | inl t ↦ inl ((tq (l + k)).0 t)
      | inr f ↦ inr (λ q. let t : y (l + k) ≡ true = (tq (l + k)).1 q in cc)
    ]

    releases_set : Tells b (Releases P Q) → (j : ℕ) × (l ≤ j) × (j < l + p) × ((b j || not (y j)) ≡ true)
    releases_set tb = elim (all_below (λ k. Q (l + k)) decided_here p) [
      | inl all ↦ (l, omega arith, omega arith, or_left (b l) _ ((tb l).1 (λ j le. inl (beyond_loop all j j (omega arith) le))))
      | inr w ↦ let h = w.1 in (
        l + w.0,
        omega arith,
        omega arith,
        or_right (b (l + w.0)) _ (not_from_false (y (l + w.0)) (elim (cases_Bool (y (l + w.0))) [
          | inl t ↦ absurd (w.2 ((tq (l + w.0)).0 t))
          | inr f ↦ f
        ])),
      )
    ]

tells_like : (b : ℕ → Bool) (P Q : Moment) → ((i : ℕ) → P i ↔ Q i) → Tells b P → Tells b Q
tells_like b P Q e t i = Decides-like (b i) (e i).0 (e i).1 (t i)

backwards : {P Q : Moment} → ((i : ℕ) → P i ↔ Q i) → (i : ℕ) → Q i ↔ P i
backwards e i = ((e i).1, (e i).0)

yesterday_shift : (b : ℕ → Bool) (P : Moment) → Tells b (Yesterday P) → (i : ℕ) → Decides (b (i + 1)) (P i)
yesterday_shift b P t i = let e : suc i ≡ i + 1 = omega arith in subst (λ n. Decides (b n) (P i)) e (t (suc i))

weak_yesterday_shift : (b : ℕ → Bool) (P : Moment) → Tells b (WeakYesterday P) → (i : ℕ) → Decides (b (i + 1)) (P i)
weak_yesterday_shift b P t i = let e : suc i ≡ i + 1 = omega arith in subst (λ n. Decides (b n) (P i)) e (t (suc i))

yesterday_start : (b : ℕ → Bool) (P : Moment) → Tells b (Yesterday P) → b 0 ≡ false
yesterday_start b P t = elim (cases_Bool (b 0)) [ inl h ↦ absurd ((t 0).0 h) | inr h ↦ h ]

weak_yesterday_start : (b : ℕ → Bool) (P : Moment) → Tells b (WeakYesterday P) → b 0 ≡ true
weak_yesterday_start b P t = (t 0).1 tt

-- a temporal operator's bit tells its truth
abbrev pub BitTells : ℕ → (ℕ → Bool) → Moment → Type 0
BitTells w bit R = 0 < w → Tells bit R

module _ (P : Moment) (b x : ℕ → Bool) (tp : Tells x P) where
  -- one operator with one operand
  unary_told : (o : UnaryOperator) → BitTells (unary_bits o) b (unary_truth o P) → Tells (λ i. unary_now o (b i) (x i)) (unary_truth o P)
  unary_told UnaryOperator.Not tb = λ i. Decides-not _ (tp i)
  unary_told UnaryOperator.Next tb = tb (omega arith)
  unary_told UnaryOperator.Finally tb = tb (omega arith)
  unary_told UnaryOperator.Globally tb = tb (omega arith)
  unary_told UnaryOperator.Yesterday tb = tb (omega arith)
  unary_told UnaryOperator.WeakYesterday tb = tb (omega arith)
  unary_told UnaryOperator.Once tb = tb (omega arith)
  unary_told UnaryOperator.Historically tb = tb (omega arith)
  unary_told UnaryOperator.NowOrNext tb = tb (omega arith)
  unary_told UnaryOperator.NowAndNext tb = tb (omega arith)
  unary_told UnaryOperator.NowOrBefore tb = tb (omega arith)
  unary_told UnaryOperator.NowAndBefore tb = tb (omega arith)

  unary_row_holds : (o : UnaryOperator) → BitTells (unary_bits o) b (unary_truth o P) → (i : ℕ) → unary_row o (b i) (b (i + 1)) (x i) (x (i + 1))
  unary_row_holds UnaryOperator.Not tb i = tt
  unary_row_holds UnaryOperator.Next tb i = same_from_decides (b i) (x (i + 1)) (tb (omega arith) i) (tp (i + 1))
  unary_row_holds UnaryOperator.Finally tb i =
      until_row _ P b (λ i. true) x always tp (tells_like b _ _ (backwards (finally_until P)) (tb (omega arith))) i
  unary_row_holds UnaryOperator.Globally tb i =
      releases_row _ P b (λ i. false) x never tp (tells_like b _ _ (backwards (globally_releases P)) (tb (omega arith))) i
  unary_row_holds UnaryOperator.Yesterday tb i = same_from_decides (b (i + 1)) (x i) (yesterday_shift b P (tb (omega arith)) i) (tp i)
  unary_row_holds UnaryOperator.WeakYesterday tb i = same_from_decides (b (i + 1)) (x i) (weak_yesterday_shift b P (tb (omega arith)) i) (tp i)
  unary_row_holds UnaryOperator.Once tb i =
      since_row _ P b (λ i. true) x always tp (tells_like b _ _ (backwards (once_since P)) (tb (omega arith))) i
  unary_row_holds UnaryOperator.Historically tb i =
      triggered_row _ P b (λ i. false) x never tp (tells_like b _ _ (backwards (historically_triggered P)) (tb (omega arith))) i
  unary_row_holds UnaryOperator.NowOrNext tb i =
      same_from_decides (b i) (x i || x (i + 1)) (tb (omega arith) i) (Decides-or _ _ (tp i) (tp (i + 1)))
  unary_row_holds UnaryOperator.NowAndNext tb i =
      same_from_decides (b i) (x i && x (i + 1)) (tb (omega arith) i) (Decides-and _ _ (tp i) (tp (i + 1)))
  unary_row_holds UnaryOperator.NowOrBefore tb i =
      let e : suc i ≡ i + 1 = omega arith in
      let y = subst (λ n. Decides (x i) (Yesterday P n)) e (tp i) in
      same_from_decides (b (i + 1)) (x (i + 1) || x i) (tb (omega arith) (i + 1)) (Decides-or _ _ (tp (i + 1)) y)
  unary_row_holds UnaryOperator.NowAndBefore tb i =
      let e : suc i ≡ i + 1 = omega arith in
      let y = subst (λ n. Decides (x i) (WeakYesterday P n)) e (tp i) in
      same_from_decides (b (i + 1)) (x (i + 1) && x i) (tb (omega arith) (i + 1)) (Decides-and _ _ (tp (i + 1)) y)

  unary_start_holds : (o : UnaryOperator) → BitTells (unary_bits o) b (unary_truth o P) → unary_start o (b 0) (x 0)
  unary_start_holds UnaryOperator.Not tb = tt
  unary_start_holds UnaryOperator.Next tb = tt
  unary_start_holds UnaryOperator.Finally tb = tt
  unary_start_holds UnaryOperator.Globally tb = tt
  unary_start_holds UnaryOperator.Yesterday tb = yesterday_start b P (tb (omega arith))
  unary_start_holds UnaryOperator.WeakYesterday tb = weak_yesterday_start b P (tb (omega arith))
  unary_start_holds UnaryOperator.Once tb =
      since_start _ P b (λ i. true) x always tp (tells_like b _ _ (backwards (once_since P)) (tb (omega arith)))
  unary_start_holds UnaryOperator.Historically tb =
      triggered_start _ P b (λ i. false) x never tp (tells_like b _ _ (backwards (historically_triggered P)) (tb (omega arith)))
  unary_start_holds UnaryOperator.NowOrNext tb = tt
  unary_start_holds UnaryOperator.NowAndNext tb = tt
  unary_start_holds UnaryOperator.NowOrBefore tb =
      same_from_decides (b 0) (x 0) (Decides-like (b 0) (λ h. elim h [ inl y ↦ y | inr y ↦ absurd y ]) inl (tb (omega arith) 0)) (tp 0)
  unary_start_holds UnaryOperator.NowAndBefore tb =
      same_from_decides (b 0) (x 0) (Decides-like (b 0) (λ h. h.0) (λ h. (h, tt)) (tb (omega arith) 0)) (tp 0)

module _ (P Q : Moment) (b x y : ℕ → Bool) (tp : Tells x P) (tq : Tells y Q) where
  -- one operator with two operands
  binary_told : (o : BinaryOperator) → BitTells (binary_bits o) b (binary_truth o P Q) → Tells (λ i. binary_now o (b i) (x i) (y i)) (binary_truth o P Q)
  binary_told BinaryOperator.And tb = λ i. Decides-and _ _ (tp i) (tq i)
  binary_told BinaryOperator.Or tb = λ i. Decides-or _ _ (tp i) (tq i)
  binary_told BinaryOperator.Xor tb = λ i. Decides-xor _ _ (tp i) (tq i)
  binary_told BinaryOperator.Xnor tb = λ i. Decides-same _ _ (tp i) (tq i)
  binary_told BinaryOperator.Implies tb = λ i. Decides-implies _ _ (tp i) (tq i)
  binary_told BinaryOperator.Iff tb = λ i. Decides-same _ _ (tp i) (tq i)
  binary_told BinaryOperator.Until tb = tb (omega arith)
  binary_told BinaryOperator.Releases tb = tb (omega arith)
  binary_told BinaryOperator.Since tb = tb (omega arith)
  binary_told BinaryOperator.Triggered tb = tb (omega arith)

  binary_row_holds : (o : BinaryOperator) → BitTells (binary_bits o) b (binary_truth o P Q) → (i : ℕ) →
      binary_row o (b i) (b (i + 1)) (x i) (y i) (x (i + 1)) (y (i + 1))
  binary_row_holds BinaryOperator.And tb i = tt
  binary_row_holds BinaryOperator.Or tb i = tt
  binary_row_holds BinaryOperator.Xor tb i = tt
  binary_row_holds BinaryOperator.Xnor tb i = tt
  binary_row_holds BinaryOperator.Implies tb i = tt
  binary_row_holds BinaryOperator.Iff tb i = tt
  binary_row_holds BinaryOperator.Until tb i = until_row P Q b x y tp tq (tb (omega arith)) i
  binary_row_holds BinaryOperator.Releases tb i = releases_row P Q b x y tp tq (tb (omega arith)) i
  binary_row_holds BinaryOperator.Since tb i = since_row P Q b x y tp tq (tb (omega arith)) i
  binary_row_holds BinaryOperator.Triggered tb i = triggered_row P Q b x y tp tq (tb (omega arith)) i

  binary_start_holds : (o : BinaryOperator) → BitTells (binary_bits o) b (binary_truth o P Q) → binary_start o (b 0) (y 0)
  binary_start_holds BinaryOperator.And tb = tt
  binary_start_holds BinaryOperator.Or tb = tt
  binary_start_holds BinaryOperator.Xor tb = tt
  binary_start_holds BinaryOperator.Xnor tb = tt
  binary_start_holds BinaryOperator.Implies tb = tt
  binary_start_holds BinaryOperator.Iff tb = tt
  binary_start_holds BinaryOperator.Until tb = tt
  binary_start_holds BinaryOperator.Releases tb = tt
  binary_start_holds BinaryOperator.Since tb = since_start P Q b x y tp tq (tb (omega arith))
  binary_start_holds BinaryOperator.Triggered tb = triggered_start P Q b x y tp tq (tb (omega arith))

-- the sets, over one pass of the loop
module _ (s : ℕ → Side) (p l : ℕ) (some : 0 < p) where
  unary_sets_hold : (o : UnaryOperator) (P : Moment) (bit q : Set) → Tells (λ i. q (s i)) P → BitTells (unary_bits o) (λ i. bit (s i)) (unary_truth o P) →
      Repeats p l P → Each (InLoop s (l + p) l) (unary_sets o bit q)
  unary_sets_hold UnaryOperator.Not P bit q tq tb r = tt
  unary_sets_hold UnaryOperator.Next P bit q tq tb r = tt
  unary_sets_hold UnaryOperator.Finally P bit q tq tb r =
      (until_set _ P (λ i. bit (s i)) (λ i. true) (λ i. q (s i)) always tq p l some r (tells_like (λ i. bit (s i)) _ _ (backwards (finally_until P)) (tb (omega arith))), tt)
  unary_sets_hold UnaryOperator.Globally P bit q tq tb r =
      (releases_set _ P (λ i. bit (s i)) (λ i. false) (λ i. q (s i)) never tq p l some r (tells_like (λ i. bit (s i)) _ _ (backwards (globally_releases P)) (tb (omega arith))), tt)
  unary_sets_hold UnaryOperator.Yesterday P bit q tq tb r = tt
  unary_sets_hold UnaryOperator.WeakYesterday P bit q tq tb r = tt
  unary_sets_hold UnaryOperator.Once P bit q tq tb r = tt
  unary_sets_hold UnaryOperator.Historically P bit q tq tb r = tt
  unary_sets_hold UnaryOperator.NowOrNext P bit q tq tb r = tt
  unary_sets_hold UnaryOperator.NowAndNext P bit q tq tb r = tt
  unary_sets_hold UnaryOperator.NowOrBefore P bit q tq tb r = tt
  unary_sets_hold UnaryOperator.NowAndBefore P bit q tq tb r = tt

  binary_sets_hold : (o : BinaryOperator) (P Q : Moment) (bit f g : Set) → Tells (λ i. f (s i)) P → Tells (λ i. g (s i)) Q →
      BitTells (binary_bits o) (λ i. bit (s i)) (binary_truth o P Q) → Repeats p l Q → Each (InLoop s (l + p) l) (binary_sets o bit g)
  binary_sets_hold BinaryOperator.And P Q bit f g tp tq tb r = tt
  binary_sets_hold BinaryOperator.Or P Q bit f g tp tq tb r = tt
  binary_sets_hold BinaryOperator.Xor P Q bit f g tp tq tb r = tt
  binary_sets_hold BinaryOperator.Xnor P Q bit f g tp tq tb r = tt
  binary_sets_hold BinaryOperator.Implies P Q bit f g tp tq tb r = tt
  binary_sets_hold BinaryOperator.Iff P Q bit f g tp tq tb r = tt
  binary_sets_hold BinaryOperator.Until P Q bit f g tp tq tb r =
      (until_set P Q (λ i. bit (s i)) (λ i. f (s i)) (λ i. g (s i)) tp tq p l some r (tb (omega arith)), tt)
  binary_sets_hold BinaryOperator.Releases P Q bit f g tp tq tb r =
      (releases_set P Q (λ i. bit (s i)) (λ i. f (s i)) (λ i. g (s i)) tp tq p l some r (tb (omega arith)), tt)
  binary_sets_hold BinaryOperator.Since P Q bit f g tp tq tb r = tt
  binary_sets_hold BinaryOperator.Triggered P Q bit f g tp tq tb r = tt

-- a formula's value at a time, of which the bits are made
module _ (v : Ltl → ℕ → Bool) where
  -- F below a, then G
  abbrev pub joined : ℕ → (ℕ → Bool) → (ℕ → Bool) → ℕ → Bool
  joined a F G k = if nat_lt k a then F k else G (k - a)

  -- the values of a formula's temporal nodes at a time, in their order
  abbrev pub bits : Ltl → ℕ → ℕ → Bool
  bits (Ltl.Constant b) i k = false
  bits (Ltl.Atom a) i k = false
  bits (Ltl.Unary o f) i k = joined (nodes f) (bits f i) (λ j. v (Ltl.Unary o f) i) k
  bits (Ltl.Binary o f g) i k = joined (nodes f) (bits f i) (joined (nodes g) (bits g i) (λ j. v (Ltl.Binary o f g) i)) k

  -- each temporal node's bit is its value
  abbrev pub Carries : Ltl → ℕ → ℕ → (ℕ → Bool) → Type 0
  Carries (Ltl.Constant b) n i c = Unit {0}
  Carries (Ltl.Atom a) n i c = Unit {0}
  Carries (Ltl.Unary o f) n i c = (0 < unary_bits o → c (n + nodes f) ≡ v (Ltl.Unary o f) i) × Carries f n i c
  Carries (Ltl.Binary o f g) n i c =
      (0 < binary_bits o → c (n + nodes f + nodes g) ≡ v (Ltl.Binary o f g) i) × Carries f n i c × Carries g (n + nodes f) i c

  first_part : (c F G : ℕ → Bool) (n a b : ℕ) → ((k : ℕ) → k < a + b → c (n + k) ≡ joined a F G k) → (k : ℕ) → k < a → c (n + k) ≡ F k
  first_part c F G n a b h k lt = let e = h k (omega arith) in grind (arith, nat_tests)

  second_part : (c F G : ℕ → Bool) (n a b : ℕ) → ((k : ℕ) → k < a + b → c (n + k) ≡ joined a F G k) → (k : ℕ) → k < b → c (n + a + k) ≡ G k
  second_part c F G n a b h k lt =
      let e = h (a + k) (omega arith) in
      let s : n + a + k ≡ n + (a + k) = omega arith in
      let t : a + k - a ≡ k = omega arith in
      let u : G (a + k - a) ≡ G k = ap G t in
      let w : c (n + a + k) ≡ c (n + (a + k)) = ap c s in
      grind (arith, nat_tests)

  own_part : (c F G : ℕ → Bool) (n a b : ℕ) → ((k : ℕ) → k < a + b → c (n + k) ≡ joined a F G k) → 0 < b → c (n + a) ≡ G 0
  own_part c F G n a b h some = let e : n + a ≡ n + a + 0 = omega arith in ap c e ∙ second_part c F G n a b h 0 some

  pub carried : (f : Ltl) (n i : ℕ) (c : ℕ → Bool) → ((k : ℕ) → k < nodes f → c (n + k) ≡ bits f i k) → Carries f n i c
  carried (Ltl.Constant b) n i c h = tt
  carried (Ltl.Atom a) n i c h = tt
  carried (Ltl.Unary o f) n i c h = (
    own_part c (bits f i) (λ j. v (Ltl.Unary o f) i) n (nodes f) (unary_bits o) h,
    carried f n i c (first_part c (bits f i) (λ j. v (Ltl.Unary o f) i) n (nodes f) (unary_bits o) h),
  )
  carried (Ltl.Binary o f g) n i c h =
      let rest = second_part c (bits f i) (joined (nodes g) (bits g i) (λ j. v (Ltl.Binary o f g) i)) n (nodes f) (nodes g + binary_bits o) h in (
        own_part c (bits g i) (λ j. v (Ltl.Binary o f g) i) (n + nodes f) (nodes g) (binary_bits o) rest,
        carried f n i c (first_part c (bits f i) (joined (nodes g) (bits g i) (λ j. v (Ltl.Binary o f g) i)) n (nodes f) (nodes g + binary_bits o) h),
        carried g (n + nodes f) i c (first_part c (bits g i) (λ j. v (Ltl.Binary o f g) i) (n + nodes f) (nodes g) (binary_bits o) rest),
      )

  module _ (m : ℕ → Moment) (tv : (f : Ltl) → Tells (v f) (Satisfies m f)) (s : ℕ → Side) (atoms : (a i : ℕ) → Decides ((s i).atom a) (m a i)) where
    -- the bit of a temporal node at n
    bit_tells : (w : ℕ) (f : Ltl) (n : ℕ) → ((i : ℕ) → 0 < w → (s i).bit n ≡ v f i) → BitTells w (λ i. (s i).bit n) (Satisfies m f)
    bit_tells w f n e some i = Decides-at _ _ (e i some) (tv f i)

    pub truth_tells : (f : Ltl) (n : ℕ) → ((i : ℕ) → Carries f n i (s i).bit) → Tells (λ i. truth f n (s i)) (Satisfies m f)
    truth_tells (Ltl.Constant b) n c = λ i. (λ h. h, λ h. h)
    truth_tells (Ltl.Atom a) n c = atoms a
    truth_tells (Ltl.Unary o f) n c =
        unary_told (Satisfies m f) (λ i. (s i).bit (n + nodes f)) (λ i. truth f n (s i)) (truth_tells f n (λ j. (c j).1))
        o (bit_tells (unary_bits o) (Ltl.Unary o f) (n + nodes f) (λ j. (c j).0))
    truth_tells (Ltl.Binary o f g) n c =
        binary_told (Satisfies m f) (Satisfies m g) (λ i. (s i).bit (n + nodes f + nodes g)) (λ i. truth f n (s i)) (λ i. truth g (n + nodes f) (s i))
        (truth_tells f n (λ j. (c j).1)) (truth_tells g (n + nodes f) (λ j. (c j).2))
        o (bit_tells (binary_bits o) (Ltl.Binary o f g) (n + nodes f + nodes g) (λ j. (c j).0))

    pub rows_hold : (f : Ltl) (n : ℕ) → ((i : ℕ) → Carries f n i (s i).bit) → (i : ℕ) → rows f n (s i) (s (i + 1))
    rows_hold (Ltl.Constant b) n c i = tt
    rows_hold (Ltl.Atom a) n c i = tt
    rows_hold (Ltl.Unary o f) n c i = (
      unary_row_holds (Satisfies m f) (λ i. (s i).bit (n + nodes f)) (λ i. truth f n (s i)) (truth_tells f n (λ j. (c j).1))
          o (bit_tells (unary_bits o) (Ltl.Unary o f) (n + nodes f) (λ j. (c j).0)) i,
      rows_hold f n (λ j. (c j).1) i,
    )
    rows_hold (Ltl.Binary o f g) n c i = (
      binary_row_holds (Satisfies m f) (Satisfies m g) (λ i. (s i).bit (n + nodes f + nodes g)) (λ i. truth f n (s i)) (λ i. truth g (n + nodes f) (s i))
          (truth_tells f n (λ j. (c j).1)) (truth_tells g (n + nodes f) (λ j. (c j).2))
          o (bit_tells (binary_bits o) (Ltl.Binary o f g) (n + nodes f + nodes g) (λ j. (c j).0)) i,
      rows_hold f n (λ j. (c j).1) i,
      rows_hold g (n + nodes f) (λ j. (c j).2) i,
    )

    pub starts_hold : (f : Ltl) (n : ℕ) → ((i : ℕ) → Carries f n i (s i).bit) → starts f n (s 0)
    starts_hold (Ltl.Constant b) n c = tt
    starts_hold (Ltl.Atom a) n c = tt
    starts_hold (Ltl.Unary o f) n c = (
      unary_start_holds (Satisfies m f) (λ i. (s i).bit (n + nodes f)) (λ i. truth f n (s i)) (truth_tells f n (λ j. (c j).1))
          o (bit_tells (unary_bits o) (Ltl.Unary o f) (n + nodes f) (λ j. (c j).0)),
      starts_hold f n (λ j. (c j).1),
    )
    starts_hold (Ltl.Binary o f g) n c = (
      binary_start_holds (Satisfies m f) (Satisfies m g) (λ i. (s i).bit (n + nodes f + nodes g)) (λ i. truth f n (s i)) (λ i. truth g (n + nodes f) (s i))
          (truth_tells f n (λ j. (c j).1)) (truth_tells g (n + nodes f) (λ j. (c j).2))
          o (bit_tells (binary_bits o) (Ltl.Binary o f g) (n + nodes f + nodes g) (λ j. (c j).0)),
      starts_hold f n (λ j. (c j).1),
      starts_hold g (n + nodes f) (λ j. (c j).2),
    )

    module _ (start p l : ℕ) (some : 0 < p) (repeat : (a : ℕ) → Repeats p start (m a)) where
      repeats_at : (f : Ltl) → steady start p (past_height f) ≤ l → Repeats p l (Satisfies m f)
      repeats_at f h = from_later p _ _ _ h (repeats start p m some repeat f)

      less : (a b : ℕ) → a ≤ b → steady start p b ≤ l → steady start p a ≤ l
      less a b h k = let w = wider start p a b h in omega arith

      pub sets_hold : (f : Ltl) (n : ℕ) → ((i : ℕ) → Carries f n i (s i).bit) → steady start p (past_height f) ≤ l → Each (InLoop s (l + p) l) (sets f n)
      sets_hold (Ltl.Constant b) n c h = tt
      sets_hold (Ltl.Atom a) n c h = tt
      sets_hold (Ltl.Unary o f) n c h =
          let k : steady start p (past_height f) ≤ l = less (past_height f) (past_unary o + past_height f) (omega arith) h in
          each_join _ (sets f n) _ (sets_hold f n (λ j. (c j).1) k)
          (unary_sets_hold s p l some o (Satisfies m f) (λ t. t.bit (n + nodes f)) (truth f n) (truth_tells f n (λ j. (c j).1))
          (bit_tells (unary_bits o) (Ltl.Unary o f) (n + nodes f) (λ j. (c j).0)) (repeats_at f k))
      sets_hold (Ltl.Binary o f g) n c h =
          let kf : steady start p (past_height f) ≤ l = less (past_height f) (past_binary o + max (past_height f) (past_height g)) (omega arith) h in
          let kg : steady start p (past_height g) ≤ l = less (past_height g) (past_binary o + max (past_height f) (past_height g)) (omega arith) h in
          each_join _ (sets f n) _ (sets_hold f n (λ j. (c j).1) kf)
          (each_join _ (sets g (n + nodes f)) _ (sets_hold g (n + nodes f) (λ j. (c j).2) kg)
          (binary_sets_hold s p l some o (Satisfies m f) (Satisfies m g) (λ t. t.bit (n + nodes f + nodes g)) (truth f n) (truth g (n + nodes f))
          (truth_tells f n (λ j. (c j).1)) (truth_tells g (n + nodes f) (λ j. (c j).2))
          (bit_tells (binary_bits o) (Ltl.Binary o f g) (n + nodes f + nodes g) (λ j. (c j).0)) (repeats_at g kg)))
