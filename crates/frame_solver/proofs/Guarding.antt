-- Clauses behind activation literals.
use Rattle.std.proofs.Common.{◌≡◌, inl, inr, ℕ, zero, suc, ◌+◌, ◌<◌, ◌≤◌, Bool, true, false, List, [], ◌∷◌, ◌++◌, length, get_or, refl, sym, ◌∙◌, ap, subst, arith, length-append}
use Rattle.std.specs.Prelude.{All, Contains}
use Rattle.std.proofs.Math.ListN.{get_or-append}
use Rattle.std.proofs.Math.Seq.{get_or-append_seam}
use Rattle.std.proofs.lemmas.List.{get_or-map, length-map}
use Rattle.std.proofs.lemmas.List.Elements.{All-append, All-contains, All-map, All-weaker, All-push, All-from_get_or, Contains-append_left, Contains-append_right, Contains-get_or, All-contains_itself}
use Rattle.std.proofs.lemmas.Bool.{cases_Bool, both_ways, cases_lt}
use Rattle.clause_core.specs.declared.literal.Lit.{Lit}
use Rattle.clause_core.specs.Assignments.{ClauseTrue}
use Rattle.frame_solver.specs.Guards.{off, group, behind, IsGuarded, AllLoaded, Obeys, AllOff}

-- a literal that is true makes a clause true
pub true_in : (a : ℕ → Bool) (c : List Lit) (l : Lit) → Contains c l → a l.var ≡ l.positive → ClauseTrue a c
true_in a c l h is = (h.0, l, h.1, h.2, is)

-- what is true of the rest is true of the clause
pub true_more : (a : ℕ → Bool) (l : Lit) (d : List Lit) → ClauseTrue a d → ClauseTrue a (l ∷ d)
true_more a l d h = true_in a (l ∷ d) h.1 (Contains-append_right (l ∷ []) d h.1 (h.0, h.2, h.3)) h.4

head_in : (l : Lit) (d : List Lit) → Contains (l ∷ d) l
head_in l d = (0, omega arith, refl)

-- where the activation literal's variable is true, the rest of the clause is
rest_at : (a : ℕ → Bool) (v : ℕ) (d : List Lit) (k : ℕ) (l : Lit) → a v ≡ true → k < length (off v ∷ d) → get_or (off v ∷ d) k l ≡ l → a l.var ≡ l.positive →
    ClauseTrue a d
rest_at a v d zero l is lt at holds =
    let e : a v ≡ false = ap (λ (m : Lit). a m.var) at ∙ holds ∙ sym (ap (λ (m : Lit). m.positive) at) in
    absurd (both_ways (a v) e is)
rest_at a v d (suc k) l is lt at holds = (k, l, omega arith, at, holds)

pub rest_true : (a : ℕ → Bool) (v : ℕ) (d : List Lit) → a v ≡ true → ClauseTrue a (off v ∷ d) → ClauseTrue a d
rest_true a v d is h = rest_at a v d h.0 h.1 is h.2 h.3 h.4

lower : (b : ℕ) (gs : List (List (List Lit))) (used low : ℕ) (c : List Lit) → low ≤ used → IsGuarded b gs used c → IsGuarded b gs low c
lower b gs used low c le (inl h) = inl h
lower b gs used low c le (inr (v, at, here)) = inr (v, omega arith, here)

more : (b : ℕ) (gs : List (List (List Lit))) (used : ℕ) (g : List (List Lit)) (c : List Lit) → IsGuarded b gs used c → IsGuarded b (gs ++ g ∷ []) used c
more b gs used g c (inl (k, d, lt, here, is)) =
    let P : List (List Lit) → Type 0 = λ x. Contains x d in
    inl (k, d, omega (arith, length-append gs (g ∷ [])), subst P (sym (get_or-append gs (g ∷ []) [] k lt)) here, is)
more b gs used g c (inr h) = inr h

module _ (b : ℕ) (gs : List (List (List Lit))) (used : ℕ) where
  -- a guarded clause is true where the groups are obeyed
  guarded_true : (a : ℕ → Bool) (c : List Lit) → Obeys b gs a → AllOff used a → IsGuarded b gs used c → ClauseTrue a c
  guarded_true a c obeys offs (inl (k, d, lt, here, is)) =
      elim (cases_Bool (a (b + k))) [
        | inl hit ↦ subst (ClauseTrue a) (sym is) (true_more a (off (b + k)) d (All-contains (ClauseTrue a) (group gs k) d (obeys k lt hit) here))
        | inr miss ↦ subst (ClauseTrue a) (sym is) (true_in a (off (b + k) ∷ d) (off (b + k)) (head_in (off (b + k)) d) miss)
      ]
  guarded_true a c obeys offs (inr (v, le, here)) = true_in a c (off v) here (offs v le)

  pub all_true : (a : ℕ → Bool) (cs : List (List Lit)) → Obeys b gs a → AllOff used a → All (IsGuarded b gs used) cs → All (ClauseTrue a) cs
  all_true a cs obeys offs all = All-weaker (IsGuarded b gs used) (ClauseTrue a) (λ c. guarded_true a c obeys offs) cs all

  -- where the clauses are true, the groups are obeyed
  pub obeyed : (a : ℕ → Bool) (cs : List (List Lit)) → AllLoaded b gs cs → All (ClauseTrue a) cs → Obeys b gs a
  obeyed a cs loaded all k lt hit =
      All-weaker (λ d. Contains cs (off (b + k) ∷ d)) (ClauseTrue a)
      (λ d h. rest_true a (b + k) d hit (All-contains (ClauseTrue a) cs (off (b + k) ∷ d) all h)) (group gs k) (loaded k lt)

  -- fewer variables are left
  pub guarded_lower : (low : ℕ) (cs : List (List Lit)) → low ≤ used → All (IsGuarded b gs used) cs → All (IsGuarded b gs low) cs
  guarded_lower low cs le all = All-weaker (IsGuarded b gs used) (IsGuarded b gs low) (λ c h. lower b gs used low c le h) cs all

  -- one group more
  pub guarded_more : (g : List (List Lit)) (cs : List (List Lit)) → All (IsGuarded b gs used) cs → All (IsGuarded b (gs ++ g ∷ []) used) cs
  guarded_more g cs all = All-weaker (IsGuarded b gs used) (IsGuarded b (gs ++ g ∷ []) used) (λ c h. more b gs used g c h) cs all

  -- the clause of a query
  pub guarded_own : (v : ℕ) (d : List Lit) (cs : List (List Lit)) → used ≤ v → All (IsGuarded b gs used) cs → All (IsGuarded b gs used) (cs ++ (off v ∷ d) ∷ [])
  guarded_own v d cs le all = All-push (IsGuarded b gs used) cs (off v ∷ d) all (inr (v, le, head_in (off v) d))

  -- the clauses of the last group are added
  pub loaded_more : (g cs : List (List Lit)) → AllLoaded b gs cs → AllLoaded b (gs ++ g ∷ []) (cs ++ behind (b + length gs) g)
  loaded_more g cs loaded k lt =
      elim (cases_lt k (length gs)) [
        | inl below ↦
            let P : List (List Lit) → Type 0 = All (λ d. Contains (cs ++ behind (b + length gs) g) (off (b + k) ∷ d)) in
            subst P (sym (get_or-append gs (g ∷ []) [] k below))
            (All-weaker (λ d. Contains cs (off (b + k) ∷ d)) (λ d. Contains (cs ++ behind (b + length gs) g) (off (b + k) ∷ d))
            (λ d h. Contains-append_left cs (behind (b + length gs) g) (off (b + k) ∷ d) h) (group gs k) (loaded k below))
        | inr above ↦
            let e : k ≡ length gs = omega (arith, length-append gs (g ∷ [])) in
            let P : ℕ → Type 0 = λ n. All (λ d. Contains (cs ++ behind (b + length gs) g) (off (b + n) ∷ d)) (group (gs ++ g ∷ []) n) in
            let Q : List (List Lit) → Type 0 = All (λ d. Contains (cs ++ behind (b + length gs) g) (off (b + length gs) ∷ d)) in
            subst P (sym e) (subst Q (sym (get_or-append_seam gs g [] []))
            (All-from_get_or (λ d. Contains (cs ++ behind (b + length gs) g) (off (b + length gs) ∷ d)) g [] (λ i below.
            let here : List Lit = get_or g i [] in
            let is : get_or (behind (b + length gs) g) i [] ≡ off (b + length gs) ∷ here = get_or-map (λ d. off (b + length gs) ∷ d) g i [] [] below in
            let C : List Lit → Type 0 = λ x. Contains (cs ++ behind (b + length gs) g) x in
            subst C is (Contains-append_right cs (behind (b + length gs) g) (get_or (behind (b + length gs) g) i [])
            (Contains-get_or (behind (b + length gs) g) i [] (simp length-map below))))))
      ]

  -- the same clauses and others stand here
  pub loaded_in : (cs ds : List (List Lit)) → All (Contains ds) cs → AllLoaded b gs cs → AllLoaded b gs ds
  loaded_in cs ds sub loaded k lt =
      All-weaker (λ d. Contains cs (off (b + k) ∷ d)) (λ d. Contains ds (off (b + k) ∷ d))
      (λ d h. All-contains (Contains ds) cs (off (b + k) ∷ d) sub h) (group gs k) (loaded k lt)

  -- the clauses of the last group are guarded
  pub guarded_group : (g : List (List Lit)) → All (IsGuarded b (gs ++ g ∷ []) used) (behind (b + length gs) g)
  guarded_group g =
      let G : List Lit → Type 0 = IsGuarded b (gs ++ g ∷ []) used in
      All-map G (λ d. off (b + length gs) ∷ d) g (All-weaker (Contains g) (λ d. G (off (b + length gs) ∷ d)) (λ d here.
      let P : List (List Lit) → Type 0 = λ x. Contains x d in
      inl (length gs, d, omega (arith, length-append gs (g ∷ [])), subst P (sym (get_or-append_seam gs g [] [])) here, refl)) g (All-contains_itself g))

  -- one group more, whose clauses are added
  pub guarded_grown : (g cs : List (List Lit)) → All (IsGuarded b gs used) cs → All (IsGuarded b (gs ++ g ∷ []) used) (cs ++ behind (b + length gs) g)
  guarded_grown g cs all =
      All-append (IsGuarded b (gs ++ g ∷ []) used) cs (behind (b + length gs) g) (guarded_more g cs all) (guarded_group g)
