-- How each temporal operator unfolds over one step of time, and which bits then tell it.
use Rattle.std.proofs.Common.{◌≡◌, ℕ, zero, suc, ◌+◌, ◌-◌, ◌<◌, ◌≤◌, ◌⊎◌, inl, inr, Bool, true, false, not, ◌&&◌, ◌||◌, refl, sym, ap, ◌∙◌, subst, arith}
use Rattle.std.specs.Prelude.{◌↔◌}
use Rattle.std.specs.Bool.{Decides}
use Rattle.std.proofs.lemmas.Bool.{cases_Bool, or_cases, and_parts, and_from, or_left, or_right, not_from_true, cases_eq}
use Rattle.std.proofs.lemmas.Bool.Decides.{Decides-at, Decides-like, Decides-and, Decides-or}
use Rattle.ltl_meaning.specs.Truth.{Moment, Finally, Globally, Until, Releases, Yesterday, WeakYesterday, Once, Historically, Since, Triggered}

-- x says when P is true
abbrev pub Tells : (ℕ → Bool) → Moment → Type 0
Tells x P = (i : ℕ) → Decides (x i) (P i)

-- true again and again
abbrev pub Often : (ℕ → Bool) → Type 0
Often z = (i : ℕ) → (j : ℕ) × (i ≤ j) × (z j ≡ true)

module _ (P Q : Moment) where
  pub until_unfolds : (i : ℕ) → Until P Q i ↔ (Q i ⊎ (P i × Until P Q (i + 1)))
  until_unfolds i = (
    λ a. elim (cases_eq a.0 i) [
      | inl e ↦ inl (subst Q e a.2)
      | inr e ↦ let h = a.1 in inr (a.3 i (omega arith) (omega arith), (a.0, omega arith, a.2, λ k lo hi. a.3 k (omega arith) hi))
    ],
    λ a. elim a [
      | inl q ↦ (i, omega arith, q, λ k lo hi. absurd (omega arith))
      | inr b ↦ (b.1.0, omega (arith, b.1.1), b.1.2, λ k lo hi. elim (cases_eq k i) [ inl e ↦ subst P (sym e) b.0 | inr e ↦ b.1.3 k (omega arith) hi ])
    ],
  )

  pub releases_unfolds : (i : ℕ) → Releases P Q i → Q i × ((P i → ⊥) → Releases P Q (i + 1))
  releases_unfolds i a = (
    elim (a i (omega arith)) [ inl q ↦ q | inr w ↦ absurd (omega (arith, w.1, w.2)) ],
    λ no j le. elim (a j (omega arith)) [
      | inl q ↦ inl q
      | inr w ↦ elim (cases_eq w.0 i) [ inl e ↦ absurd (no (subst P e w.3)) | inr e ↦ inr (w.0, omega (arith, w.1), w.2, w.3) ]
    ],
  )

  pub releases_now : (i : ℕ) → Q i → P i ⊎ Releases P Q (i + 1) → Releases P Q i
  releases_now i q b = λ j le. elim (cases_eq j i) [
    | inl e ↦ inl (subst Q (sym e) q)
    | inr e ↦ elim b [
      | inl p ↦ inr (i, omega arith, omega arith, p)
      | inr r ↦ elim (r j (omega arith)) [ inl x ↦ inl x | inr w ↦ inr (w.0, omega (arith, w.1), w.2, w.3) ]
    ]
  ]

  pub since_starts : Since P Q 0 ↔ Q 0
  since_starts = (
    λ a. let e : a.0 ≡ 0 = omega (arith, a.1) in subst Q e a.2,
    λ q. (0, omega arith, q, λ k lo hi. absurd (omega arith)),
  )

  pub since_unfolds : (i : ℕ) → Since P Q (i + 1) ↔ (Q (i + 1) ⊎ (P (i + 1) × Since P Q i))
  since_unfolds i = (
    λ a. elim (cases_eq a.0 (i + 1)) [
      | inl e ↦ inl (subst Q e a.2)
      | inr e ↦ let h = a.1 in inr (a.3 (i + 1) (omega arith) (omega arith), (a.0, omega arith, a.2, λ k lo hi. a.3 k lo (omega arith)))
    ],
    λ a. elim a [
      | inl q ↦ (i + 1, omega arith, q, λ k lo hi. absurd (omega arith))
      | inr b ↦ (b.1.0, omega (arith, b.1.1), b.1.2, λ k lo hi. elim (cases_eq k (i + 1)) [ inl e ↦ subst P (sym e) b.0 | inr e ↦ b.1.3 k lo (omega arith) ])
    ],
  )

  pub triggered_starts : Triggered P Q 0 ↔ Q 0
  triggered_starts = (
    λ a. elim (a 0 (omega arith)) [ inl q ↦ q | inr w ↦ absurd (omega (arith, w.1, w.2)) ],
    λ q j le. let e : 0 ≡ j = omega arith in inl (subst Q e q),
  )

  pub triggered_next : (i : ℕ) → Triggered P Q (i + 1) → Q (i + 1) × ((P (i + 1) → ⊥) → Triggered P Q i)
  triggered_next i a = (
    elim (a (i + 1) (omega arith)) [ inl q ↦ q | inr w ↦ absurd (omega (arith, w.1, w.2)) ],
    λ no j le. elim (a j (omega arith)) [
      | inl q ↦ inl q
      | inr w ↦ elim (cases_eq w.0 (i + 1)) [ inl e ↦ absurd (no (subst P e w.3)) | inr e ↦ inr (w.0, w.1, omega (arith, w.2), w.3) ]
    ],
  )

  pub triggered_now : (i : ℕ) → Q (i + 1) → P (i + 1) ⊎ Triggered P Q i → Triggered P Q (i + 1)
  triggered_now i q b = λ j le. elim (cases_eq j (i + 1)) [
    | inl e ↦ inl (subst Q (sym e) q)
    | inr e ↦ elim b [
      | inl p ↦ inr (i + 1, omega arith, omega arith, p)
      | inr r ↦ elim (r j (omega arith)) [ inl x ↦ inl x | inr w ↦ inr (w.0, w.1, omega (arith, w.2), w.3) ]
    ]
  ]

  module _ (b x y : ℕ → Bool) (tp : Tells x P) (tq : Tells y Q) where
    -- what releases and triggered share: `both` and its step, from the parts
    pub both : {R S : Type 0} (i : ℕ) (c : Bool) → (R → Q i × ((P i → ⊥) → S)) → (Q i → P i ⊎ S → R) → Decides c S → Decides (y i && (x i || c)) R
    both {R} {S} i c out into d = (
      λ h. let p = and_parts (y i) (x i || c) h in
          into ((tq i).0 p.0) (elim (or_cases (x i) c p.1) [ inl t ↦ inl ((tp i).0 t) | inr t ↦ inr (d.0 t) ]),
      λ r. let q = out r in and_from (y i) (x i || c) ((tq i).1 q.0) (elim (cases_Bool (x i)) [
        | inl t ↦ or_left (x i) c t
        | inr t ↦ or_right (x i) c (d.1 (q.1 (λ p. let w : x i ≡ true = (tp i).1 p in cc)))
      ]),
    )

    pub since_from : b 0 ≡ y 0 → ((i : ℕ) → b (i + 1) ≡ (y (i + 1) || (x (i + 1) && b i))) → Tells b (Since P Q)
    since_from start row zero = Decides-at (b 0) (y 0) start (Decides-like (y 0) since_starts.1 since_starts.0 (tq 0))
    since_from start row (suc i) =
        let e : suc i ≡ i + 1 = omega arith in
        subst (λ n. Decides (b n) (Since P Q n)) (sym e)
        (Decides-at (b (i + 1)) _ (row i)
        (Decides-like _ (since_unfolds i).1 (since_unfolds i).0
        (Decides-or _ _ (tq (i + 1)) (Decides-and _ _ (tp (i + 1)) (since_from start row i)))))

    pub triggered_from : b 0 ≡ y 0 → ((i : ℕ) → b (i + 1) ≡ (y (i + 1) && (x (i + 1) || b i))) → Tells b (Triggered P Q)
    triggered_from start row zero = Decides-at (b 0) (y 0) start (Decides-like (y 0) triggered_starts.1 triggered_starts.0 (tq 0))
    triggered_from start row (suc i) =
        let e : suc i ≡ i + 1 = omega arith in
        subst (λ n. Decides (b n) (Triggered P Q n)) (sym e)
        (Decides-at (b (i + 1)) _ (row i)
        (both (i + 1) (b i) (triggered_next i) (triggered_now i) (triggered_from start row i)))

    module _ (row : (i : ℕ) → b i ≡ (y i || (x i && b (i + 1)))) where
      until_out : (d i j : ℕ) → i + d ≡ j → (not (b j) || y j) ≡ true → b i ≡ true → Until P Q i
      until_out zero i j e z h =
          let s : j ≡ i = omega arith in
          elim (or_cases (not (b j)) (y j) z) [
            | inl t ↦ absurd (let u : b j ≡ true = ap b s ∙ h in let v : not (b j) ≡ false = not_from_true (b j) u in cc)
            | inr t ↦ (until_unfolds i).1 (inl (subst Q s ((tq j).0 t)))
          ]
      until_out (suc d) i j e z h = elim (or_cases (y i) (x i && b (i + 1)) (sym (row i) ∙ h)) [
        | inl t ↦ (until_unfolds i).1 (inl ((tq i).0 t))
        | inr t ↦ let p = and_parts (x i) (b (i + 1)) t in
            (until_unfolds i).1 (inr ((tp i).0 p.0, until_out d (i + 1) j (omega arith) z p.1))
      ]

      until_in : (d i j : ℕ) → i + d ≡ j → Q j → ((k : ℕ) → i ≤ k → k < j → P k) → b i ≡ true
      until_in zero i j e q all = let s : j ≡ i = omega arith in row i ∙ or_left (y i) _ ((tq i).1 (subst Q s q))
      until_in (suc d) i j e q all =
          row i ∙ or_right (y i) _ (and_from (x i) (b (i + 1)) ((tp i).1 (all i (omega arith) (omega arith)))
          (until_in d (i + 1) j (omega arith) q (λ k lo hi. all k (omega arith) hi)))

      pub until_from : Often (λ j. not (b j) || y j) → Tells b (Until P Q)
      until_from fair i = (
        λ h. let z = fair i in let le : i ≤ z.0 = z.1 in let far : i + (z.0 - i) ≡ z.0 = omega arith in until_out (z.0 - i) i z.0 far z.2 h,
        λ a. let le : i ≤ a.0 = a.1 in let far : i + (a.0 - i) ≡ a.0 = omega arith in until_in (a.0 - i) i a.0 far a.2 a.3,
      )

    module _ (row : (i : ℕ) → b i ≡ (y i && (x i || b (i + 1)))) where
      releases_out : (d i j : ℕ) → i + d ≡ j → b i ≡ true → Q j ⊎ ((k : ℕ) × (i ≤ k) × (k < j) × P k)
      releases_out zero i j e h = let s : i ≡ j = omega arith in
          inl (subst Q s ((tq i).0 (and_parts (y i) _ (sym (row i) ∙ h)).0))
      releases_out (suc d) i j e h = elim (or_cases (x i) (b (i + 1)) (and_parts (y i) _ (sym (row i) ∙ h)).1) [
        | inl t ↦ inr (i, omega arith, omega arith, (tp i).0 t)
        | inr t ↦ elim (releases_out d (i + 1) j (omega arith) t) [ inl q ↦ inl q | inr w ↦ inr (w.0, omega (arith, w.1), w.2, w.3) ]
      ]

      releases_in : (d i j : ℕ) → i + d ≡ j → (b j || not (y j)) ≡ true → Releases P Q i → b i ≡ true
      releases_in zero i j e z r =
          let s : j ≡ i = omega arith in
          elim (or_cases (b j) (not (y j)) z) [
            | inl t ↦ subst (λ n. b n ≡ true) s t
            | inr t ↦ absurd (let u : y j ≡ true = (tq j).1 (subst Q (sym s) (releases_unfolds i r).0) in let v : not (y j) ≡ false = not_from_true (y j) u in cc)
          ]
      releases_in (suc d) i j e z r =
          let u = releases_unfolds i r in
          row i ∙ and_from (y i) _ ((tq i).1 u.0) (elim (cases_Bool (x i)) [
            | inl t ↦ or_left (x i) _ t
            | inr t ↦ or_right (x i) _ (releases_in d (i + 1) j (omega arith) z (u.1 (λ p. let w : x i ≡ true = (tp i).1 p in cc)))
          ])

      pub releases_from : Often (λ j. b j || not (y j)) → Tells b (Releases P Q)
      releases_from fair i = (
        λ h j le. let far : i + (j - i) ≡ j = omega arith in releases_out (j - i) i j far h,
        λ r. let z = fair i in let le : i ≤ z.0 = z.1 in let far : i + (z.0 - i) ≡ z.0 = omega arith in releases_in (z.0 - i) i z.0 far z.2 r,
      )

pub always : Tells (λ i. true) (λ i. Unit {0})
always i = (λ h. tt, λ h. refl)

pub never : Tells (λ i. false) (λ i. ⊥)
never i = (λ h. absurd cc, λ h. absurd h)

module _ (P : Moment) where
  pub finally_until : (i : ℕ) → Until (λ i. Unit {0}) P i ↔ Finally P i
  finally_until i = (λ a. (a.0, a.1, a.2), λ a. (a.0, a.1, a.2, λ k lo hi. tt))

  pub globally_releases : (i : ℕ) → Releases (λ i. ⊥) P i ↔ Globally P i
  globally_releases i = (λ a j le. elim (a j le) [ inl q ↦ q | inr w ↦ absurd w.3 ], λ a j le. inl (a j le))

  pub once_since : (i : ℕ) → Since (λ i. Unit {0}) P i ↔ Once P i
  once_since i = (λ a. (a.0, a.1, a.2), λ a. (a.0, a.1, a.2, λ k lo hi. tt))

  pub historically_triggered : (i : ℕ) → Triggered (λ i. ⊥) P i ↔ Historically P i
  historically_triggered i = (λ a j le. elim (a j le) [ inl q ↦ q | inr w ↦ absurd w.3 ], λ a j le. inl (a j le))

  module _ (b x : ℕ → Bool) (tp : Tells x P) where
    pub finally_from : ((i : ℕ) → b i ≡ (x i || b (i + 1))) → Often (λ j. not (b j) || x j) → Tells b (Finally P)
    finally_from row fair i =
        Decides-like _ (finally_until i).0 (finally_until i).1 (until_from (λ i. Unit {0}) P b (λ i. true) x always tp row fair i)

    pub globally_from : ((i : ℕ) → b i ≡ (x i && b (i + 1))) → Often (λ j. b j || not (x j)) → Tells b (Globally P)
    globally_from row fair i =
        Decides-like _ (globally_releases i).0 (globally_releases i).1 (releases_from (λ i. ⊥) P b (λ i. false) x never tp row fair i)

    pub once_from : b 0 ≡ x 0 → ((i : ℕ) → b (i + 1) ≡ (x (i + 1) || b i)) → Tells b (Once P)
    once_from start row i =
        Decides-like _ (once_since i).0 (once_since i).1 (since_from (λ i. Unit {0}) P b (λ i. true) x always tp start row i)

    pub historically_from : b 0 ≡ x 0 → ((i : ℕ) → b (i + 1) ≡ (x (i + 1) && b i)) → Tells b (Historically P)
    historically_from start row i =
        Decides-like _ (historically_triggered i).0 (historically_triggered i).1 (triggered_from (λ i. ⊥) P b (λ i. false) x never tp start row i)

    pub yesterday_from : b 0 ≡ false → ((i : ℕ) → b (i + 1) ≡ x i) → Tells b (Yesterday P)
    yesterday_from start row zero = (λ h. absurd cc, λ h. absurd h)
    yesterday_from start row (suc i) = let e : suc i ≡ i + 1 = omega arith in Decides-at _ _ (ap b e ∙ row i) (tp i)

    pub weak_yesterday_from : b 0 ≡ true → ((i : ℕ) → b (i + 1) ≡ x i) → Tells b (WeakYesterday P)
    weak_yesterday_from start row zero = (λ h. tt, λ h. start)
    weak_yesterday_from start row (suc i) = let e : suc i ≡ i + 1 = omega arith in Decides-at _ _ (ap b e ∙ row i) (tp i)
