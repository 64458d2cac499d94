-- On a loop truth is decided, by looking no further than one pass: without excluded middle.
use Rattle.std.proofs.Common.{◌≡◌, ℕ, zero, suc, ◌+◌, ◌-◌, ◌<◌, ◌≤◌, ◌⊎◌, inl, inr, [], Bool, true, false, refl, sym, subst, arith}
use Rattle.std.specs.Prelude.{◌↔◌, slice_index_or}
use Rattle.std.specs.Bool.{Decides}
use Rattle.std.proofs.lemmas.Bool.{cases_Bool, cases_lt, cases_eq}
use Rattle.ltl_meaning.specs.declared.node.UnaryOperator.{UnaryOperator}
use Rattle.ltl_meaning.specs.declared.node.BinaryOperator.{BinaryOperator}
use Rattle.ltl_meaning.specs.declared.word.Word.{Word}
use Rattle.ltl_meaning.specs.Ltl.{Ltl, past_height}
use Rattle.ltl_meaning.specs.Truth.{Moment, Repeats, Until, Releases, Yesterday, WeakYesterday, Since, Triggered, unary_truth, binary_truth, Satisfies}
use Rattle.ltl_meaning.specs.Lasso.{on, period, place}
use Rattle.ltl_meaning.proofs.Period.{up, down, left, right, constant_repeats, repeats, some_period, atoms_repeat}
use Rattle.ltl_meaning.proofs.Unfolding.{releases_unfolds, releases_now, since_starts, since_unfolds, triggered_starts, triggered_next, triggered_now, finally_until, globally_releases, once_since, historically_triggered}

-- at each time it holds or it does not
abbrev pub Decided : Moment → Type 0
Decided P = (i : ℕ) → P i ⊎ (P i → ⊥)

pub some_below : (R : Moment) → Decided R → (n : ℕ) → ((j : ℕ) × (j < n) × R j) ⊎ ((j : ℕ) → j < n → R j → ⊥)
some_below R d zero = inr (λ j h r. omega arith)
some_below R d (suc n) = elim (d n) [
  | inl r ↦ inl (n, omega arith, r)
  | inr ne ↦ elim (some_below R d n) [
    | inl w ↦ inl (w.0, omega (arith, w.1), w.2)
    | inr none ↦ inr (λ j h r. elim (cases_eq j n) [ inl e ↦ ne (subst R e r) | inr e ↦ none j (omega arith) r ])
  ]
]

pub all_below : (R : Moment) → Decided R → (n : ℕ) → ((j : ℕ) → j < n → R j) ⊎ ((j : ℕ) × (j < n) × (R j → ⊥))
all_below R d zero = inl (λ j h. absurd (omega arith))
all_below R d (suc n) = elim (d n) [
  | inr ne ↦ inr (n, omega arith, ne)
  | inl r ↦ elim (all_below R d n) [
    | inr w ↦ inr (w.0, omega (arith, w.1), w.2)
    | inl all ↦ inl (λ j h. elim (cases_eq j n) [ inl e ↦ subst R (sym e) r | inr e ↦ all j (omega arith) ])
  ]
]

-- a decision of what is equivalent
pub decided_like : {P Q : Type 0} → P ↔ Q → P ⊎ (P → ⊥) → Q ⊎ (Q → ⊥)
decided_like e (inl x) = inl (e.0 x)
decided_like e (inr n) = inr (λ y. n (e.1 y))

pub decided_and : {P Q : Type 0} → P ⊎ (P → ⊥) → Q ⊎ (Q → ⊥) → (P × Q) ⊎ ((P × Q) → ⊥)
decided_and (inl x) (inl y) = inl (x, y)
decided_and (inl x) (inr n) = inr (λ a. n a.1)
decided_and (inr n) d = inr (λ a. n a.0)

pub decided_or : {P Q : Type 0} → P ⊎ (P → ⊥) → Q ⊎ (Q → ⊥) → (P ⊎ Q) ⊎ ((P ⊎ Q) → ⊥)
decided_or (inl x) d = inl (inl x)
decided_or (inr n) (inl y) = inl (inr y)
decided_or (inr n) (inr k) = inr (λ a. elim a [ inl x ↦ n x | inr y ↦ k y ])

pub decided_imp : {P Q : Type 0} → P ⊎ (P → ⊥) → Q ⊎ (Q → ⊥) → (P → Q) ⊎ ((P → Q) → ⊥)
decided_imp (inr n) d = inl (λ x. absurd (n x))
decided_imp (inl x) (inl y) = inl (λ z. y)
decided_imp (inl x) (inr k) = inr (λ f. k (f x))

pub decided_not : {P : Type 0} → P ⊎ (P → ⊥) → (P → ⊥) ⊎ ((P → ⊥) → ⊥)
decided_not (inl x) = inr (λ n. n x)
decided_not (inr n) = inl n

pub decided_iff : {P Q : Type 0} → P ⊎ (P → ⊥) → Q ⊎ (Q → ⊥) → (P ↔ Q) ⊎ ((P ↔ Q) → ⊥)
decided_iff d e = decided_and (decided_imp d e) (decided_imp e d)

pub decided_le : (i j : ℕ) → (i ≤ j) ⊎ (i ≤ j → ⊥)
decided_le i j = elim (cases_lt j i) [ inl b ↦ inr (λ h. omega arith) | inr b ↦ inl b ]

pub decided_lt : (i j : ℕ) → (i < j) ⊎ (i < j → ⊥)
decided_lt i j = elim (cases_lt i j) [ inl b ↦ inl b | inr b ↦ inr (λ h. omega arith) ]

pub flip : {P Q : Type 0} → P ↔ Q → Q ↔ P
flip e = (e.1, e.0)

module _ (P Q : Moment) (dp : Decided P) (dq : Decided Q) where
  pub decide_since : Decided (Since P Q)
  decide_since zero = decided_like (flip (since_starts P Q)) (dq 0)
  decide_since (suc i) =
      let e : suc i ≡ i + 1 = omega arith in
      subst (λ n. Since P Q n ⊎ (Since P Q n → ⊥)) (sym e)
      (decided_like (flip (since_unfolds P Q i)) (decided_or (dq (i + 1)) (decided_and (dp (i + 1)) (decide_since i))))

  pub decide_triggered : Decided (Triggered P Q)
  decide_triggered zero = decided_like (flip (triggered_starts P Q)) (dq 0)
  decide_triggered (suc i) =
      let e : suc i ≡ i + 1 = omega arith in
      subst (λ n. Triggered P Q n ⊎ (Triggered P Q n → ⊥)) (sym e)
      (elim (dq (i + 1)) [
        | inr ne ↦ inr (λ a. ne (triggered_next P Q i a).0)
        | inl q ↦ elim (dp (i + 1)) [
          | inl x ↦ inl (triggered_now P Q i q (inl x))
          | inr ne ↦ elim (decide_triggered i) [
            | inl t ↦ inl (triggered_now P Q i q (inr t))
            | inr k ↦ inr (λ a. k ((triggered_next P Q i a).1 ne))
          ]
        ]
      ])

  module _ (p m : ℕ) (some : 0 < p) (rp : Repeats p m P) (rq : Repeats p m Q) where
    abbrev Meets : ℕ → Moment
    Meets i j = (i ≤ j) × Q j × ((k : ℕ) → k < j → i ≤ k → P k)

    decide_meets : (i : ℕ) → Decided (Meets i)
    decide_meets i j = elim (decided_le i j) [
      | inr ne ↦ inr (λ a. ne a.0)
      | inl le ↦ elim (dq j) [
        | inr ne ↦ inr (λ a. ne a.1)
        | inl q ↦ elim (all_below (λ k. i ≤ k → P k) (λ k. decided_imp (decided_le i k) (dp k)) j) [
          | inl all ↦ inl (le, q, all)
          | inr w ↦ inr (λ a. w.2 (a.2 w.0 w.1))
        ]
      ]
    ]

    sooner : (i fuel j : ℕ) → j ≤ fuel → Meets i j → (k : ℕ) × (k < i + m + p) × Meets i k
    sooner i zero j h w = (j, omega arith, w)
    sooner i (suc fuel) j h w = elim (cases_lt j (i + m + p)) [
      | inl b ↦ (j, b, w)
      | inr b ↦ sooner i fuel (j - p) (omega arith) (omega arith, down p Q m rq j (omega arith) w.1, λ k lo hi. w.2 k (omega arith) hi)
    ]

    pub decide_until : Decided (Until P Q)
    decide_until i = elim (some_below (Meets i) (decide_meets i) (i + m + p)) [
      | inl w ↦ inl (w.0, w.2.0, w.2.1, λ k lo hi. w.2.2 k hi lo)
      | inr none ↦ inr (λ a. let w = sooner i a.0 a.0 (omega arith) (a.1, a.2, λ k hi lo. a.3 k lo hi) in none w.0 w.1 w.2)
    ]

    abbrev Holds : ℕ → Moment
    Holds i j = i ≤ j → Q j ⊎ ((k : ℕ) × (k < j) × ((i ≤ k) × P k))

    decide_holds : (i : ℕ) → Decided (Holds i)
    decide_holds i j =
        decided_imp (decided_le i j) (decided_or (dq j) (elim (some_below (λ k. (i ≤ k) × P k) (λ k. decided_and (decided_le i k) (dp k)) j) [ inl w ↦ inl w | inr none ↦ inr (λ w. none w.0 w.1 w.2) ]))

    later : (i fuel j : ℕ) → j ≤ fuel → ((k : ℕ) → k < i + m + p → Holds i k) → Holds i j
    later i zero j h all = all j (omega arith)
    later i (suc fuel) j h all = elim (cases_lt j (i + m + p)) [
      | inl b ↦ all j b
      | inr b ↦ λ le. elim (later i fuel (j - p) (omega arith) all (omega arith)) [
        | inl q ↦ inl (up p Q m rq j (omega arith) q)
        | inr w ↦ inr (w.0, omega (arith, w.1), w.2)
      ]
    ]

    pub decide_releases : Decided (Releases P Q)
    decide_releases i = elim (all_below (Holds i) (decide_holds i) (i + m + p)) [
      | inl all ↦ inl (λ j le. elim (later i j j (omega arith) all le) [ inl q ↦ inl q | inr w ↦ inr (w.0, w.2.0, w.1, w.2.1) ])
      | inr w ↦ inr (λ a. w.2 (λ le. elim (a w.0 le) [ inl q ↦ inl q | inr v ↦ inr (v.0, v.2, (v.1, v.3)) ]))
    ]

pub yes : Decided (λ i. Unit {0})
yes i = inl tt

pub nope : Decided (λ i. ⊥)
nope i = inr (λ x. x)

module _ (P : Moment) (d : Decided P) where
  pub decide_yesterday : Decided (Yesterday P)
  decide_yesterday zero = inr (λ x. x)
  decide_yesterday (suc i) = d i

  pub decide_weak_yesterday : Decided (WeakYesterday P)
  decide_weak_yesterday zero = inl tt
  decide_weak_yesterday (suc i) = d i

-- an operator's truth is decided on a loop where its operands' is
pub decide_unary : (p m : ℕ) → 0 < p → (o : UnaryOperator) (P : Moment) → Repeats p m P → Decided P → Decided (unary_truth o P)
decide_unary p m some UnaryOperator.Not P r d = λ i. decided_not (d i)
decide_unary p m some UnaryOperator.Next P r d = λ i. d (i + 1)
decide_unary p m some UnaryOperator.Finally P r d = λ i.
    decided_like (finally_until P i) (decide_until _ _ yes d p m some (constant_repeats p (Unit {0}) m) r i)
decide_unary p m some UnaryOperator.Globally P r d = λ i.
    decided_like (globally_releases P i) (decide_releases _ _ nope d p m some (constant_repeats p ⊥ m) r i)
decide_unary p m some UnaryOperator.Yesterday P r d = decide_yesterday P d
decide_unary p m some UnaryOperator.WeakYesterday P r d = decide_weak_yesterday P d
decide_unary p m some UnaryOperator.Once P r d = λ i. decided_like (once_since P i) (decide_since _ _ yes d i)
decide_unary p m some UnaryOperator.Historically P r d = λ i.
    decided_like (historically_triggered P i) (decide_triggered _ _ nope d i)
decide_unary p m some UnaryOperator.NowOrNext P r d = λ i. decided_or (d i) (d (i + 1))
decide_unary p m some UnaryOperator.NowAndNext P r d = λ i. decided_and (d i) (d (i + 1))
decide_unary p m some UnaryOperator.NowOrBefore P r d = λ i. decided_or (d i) (decide_yesterday P d i)
decide_unary p m some UnaryOperator.NowAndBefore P r d = λ i. decided_and (d i) (decide_weak_yesterday P d i)

pub decide_binary : (p m : ℕ) → 0 < p → (o : BinaryOperator) (P Q : Moment) → Repeats p m P → Repeats p m Q → Decided P → Decided Q →
    Decided (binary_truth o P Q)
decide_binary p m some BinaryOperator.And P Q r s d e = λ i. decided_and (d i) (e i)
decide_binary p m some BinaryOperator.Or P Q r s d e = λ i. decided_or (d i) (e i)
decide_binary p m some BinaryOperator.Xor P Q r s d e = λ i.
    decided_or (decided_and (d i) (decided_not (e i))) (decided_and (decided_not (d i)) (e i))
decide_binary p m some BinaryOperator.Xnor P Q r s d e = λ i. decided_iff (d i) (e i)
decide_binary p m some BinaryOperator.Implies P Q r s d e = λ i. decided_imp (d i) (e i)
decide_binary p m some BinaryOperator.Iff P Q r s d e = λ i. decided_iff (d i) (e i)
decide_binary p m some BinaryOperator.Until P Q r s d e = decide_until P Q d e p m some r s
decide_binary p m some BinaryOperator.Releases P Q r s d e = decide_releases P Q d e p m some r s
decide_binary p m some BinaryOperator.Since P Q r s d e = decide_since P Q d e
decide_binary p m some BinaryOperator.Triggered P Q r s d e = decide_triggered P Q d e

module _ (start p : ℕ) (atoms : ℕ → Moment) (some : 0 < p) (each : (a : ℕ) → Repeats p start (atoms a)) (told : (a : ℕ) → Decided (atoms a)) where
  -- on a loop whose atoms are decided, the truth of every formula is
  pub decide : (f : Ltl) → Decided (Satisfies atoms f)
  decide (Ltl.Constant b) = λ i. elim (cases_Bool b) [ inl t ↦ inl t | inr f ↦ inr (λ t. cc) ]
  decide (Ltl.Atom a) = told a
  decide (Ltl.Unary o f) = decide_unary p _ some o _ (repeats start p atoms some each f) (decide f)
  decide (Ltl.Binary o f g) =
      decide_binary p _ some o _ _
      (left start p _ (past_height f) (past_height g) (repeats start p atoms some each f))
      (right start p _ (past_height f) (past_height g) (repeats start p atoms some each g))
      (decide f) (decide g)

-- on a word the truth of every formula is decided at each time
pub decide_on : (w : Word) (f : Ltl) → Decided (Satisfies (on w) f)
decide_on w f =
    decide w.start (period w) (on w) (some_period w) (atoms_repeat w)
    (λ a i. elim (cases_Bool (slice_index_or (slice_index_or w.times (place w i) []) a false)) [ inl t ↦ inl t | inr f ↦ inr (λ t. cc) ]) f

-- releases and triggered unfold where the left operand is decided
pub releases_unfolds_decided : (P Q : Moment) → Decided P → (i : ℕ) → Releases P Q i ↔ (Q i × (P i ⊎ Releases P Q (i + 1)))
releases_unfolds_decided P Q d i = (
  λ r. let u = releases_unfolds P Q i r in (u.0, elim (d i) [ inl x ↦ inl x | inr n ↦ inr (u.1 n) ]),
  λ a. releases_now P Q i a.0 a.1,
)

pub triggered_unfolds_decided : (P Q : Moment) → Decided P → (i : ℕ) → Triggered P Q i ↔ (Q i × (P i ⊎ WeakYesterday (Triggered P Q) i))
triggered_unfolds_decided P Q d zero = (
  λ r. ((triggered_starts P Q).0 r, inr tt),
  λ a. (triggered_starts P Q).1 a.0,
)
triggered_unfolds_decided P Q d (suc i) =
    let e : suc i ≡ i + 1 = omega arith in
    subst (λ n. Triggered P Q n ↔ (Q n × (P n ⊎ Triggered P Q i))) (sym e) (
      λ r. let u = triggered_next P Q i r in (u.0, elim (d (i + 1)) [ inl x ↦ inl x | inr n ↦ inr (u.1 n) ]),
      λ a. triggered_now P Q i a.0 a.1,
    )

-- a decision as a Bool
abbrev pub told_by : {P : Type 0} → P ⊎ (P → ⊥) → Bool
told_by (inl x) = true
told_by (inr n) = false

pub told_decides : {P : Type 0} (d : P ⊎ (P → ⊥)) → Decides (told_by d) P
told_decides (inl x) = (λ h. x, λ h. refl)
told_decides (inr n) = (λ h. absurd cc, λ x. absurd (n x))
