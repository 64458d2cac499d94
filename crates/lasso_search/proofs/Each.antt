-- Lists that are put together from a list for each number.
use Rattle.std.proofs.Common.{inl, inr, ◌≡◌, ℕ, zero, suc, add-one, ◌+◌, ◌-◌, ◌<◌, Bool, List, [], ◌∷◌, ◌++◌, length, get_or, refl, sym, ap, ◌∙◌, subst, length-append, arith}
use Rattle.std.specs.Prelude.{All}
use Rattle.std.proofs.lemmas.List.{get_or_append_left, get_or-append_right}
use Rattle.std.proofs.lemmas.Bool.{cases_lt}
use Rattle.std.proofs.lemmas.List.Elements.{All-from_get_or}
use Rattle.clause_core.specs.declared.literal.Lit.{Lit}
use Rattle.ltl_monitor.specs.Monitor.{Each}
use Rattle.ltl_monitor.proofs.Clauses.{Met, met_parts, met_join}
use Rattle.lasso_search.specs.Unrolling.{each}

pub each-length : {X : Type 0} (f : ℕ → X) (n : ℕ) → length (each (λ i. f i ∷ []) n) ≡ n
each-length f zero = refl
each-length f (suc n) = length-append (each (λ i. f i ∷ []) n) (f n ∷ []) ∙ (let h = each-length f n in omega arith)

pub get_or-each : {X : Type 0} (f : ℕ → X) (n k : ℕ) (d : X) → k < n → get_or (each (λ i. f i ∷ []) n) k d ≡ f k
get_or-each f zero k d h = absurd (omega arith)
get_or-each f (suc n) k d h =
    let long = each-length f n in
    elim (cases_lt k n) [
      | inl b ↦ get_or_append_left (each (λ i. f i ∷ []) n) (f n ∷ []) d k (omega (arith, long)) ∙ get_or-each f n k d b
      | inr b ↦
          (let e : k ≡ n = omega arith in
          let z : k - n ≡ 0 = omega arith in
          get_or-append_right (each (λ i. f i ∷ []) n) (f n ∷ []) n k d long b ∙ ap (λ j. get_or (f n ∷ []) j d) z ∙ ap f (sym e))
    ]

-- one number more
pub each_more : {X : Type 0} (f : ℕ → X) (xs ys : List X) (n : ℕ) (x : X) → xs ≡ each (λ i. f i ∷ []) n → x ≡ f n → ys ≡ xs ++ x ∷ [] →
    ys ≡ each (λ i. f i ∷ []) (n + 1)
each_more f xs ys n x before here made =
    made ∙ ap (λ zs. zs ++ x ∷ []) before ∙ ap (λ z. each (λ i. f i ∷ []) n ++ z ∷ []) here ∙ ap (each (λ i. f i ∷ [])) (sym (add-one n))

-- clauses of each number are met where those of every number are
pub met_each_to : (v : ℕ → Bool) (f : ℕ → List (List Lit)) (n : ℕ) → Met v (each f n) → (i : ℕ) → i < n → Met v (f i)
met_each_to v f zero h i lt = absurd (omega arith)
met_each_to v f (suc n) h i lt =
    let p = met_parts v (each f n) (f n) h in
    elim (cases_lt i n) [
      | inl b ↦ met_each_to v f n p.0 i b
      | inr b ↦ (let e : n ≡ i = omega arith in subst (λ k. Met v (f k)) e p.1)
    ]

pub met_each_from : (v : ℕ → Bool) (f : ℕ → List (List Lit)) (n : ℕ) → ((i : ℕ) → i < n → Met v (f i)) → Met v (each f n)
met_each_from v f zero h = refl
met_each_from v f (suc n) h = met_join v (each f n) (f n) (met_each_from v f n (λ i lt. h i (omega (arith, lt)))) (h n (omega arith))

-- what holds of each list holds of all together
pub join : {X : Type 0} (P : X → Type 0) (xs ys : List X) → Each P xs → Each P ys → Each P (xs ++ ys)
join P [] ys h k = k
join P (x ∷ xs) ys h k = (h.0, join P xs ys h.1 k)

pub Each-each : {X : Type 0} (P : X → Type 0) (f : ℕ → List X) (n : ℕ) → ((i : ℕ) → i < n → Each P (f i)) → Each P (each f n)
Each-each P f zero h = tt
Each-each P f (suc n) h = join P (each f n) (f n) (Each-each P f n (λ i lt. h i (omega (arith, lt)))) (h n (omega arith))

-- what holds of the item of each number holds of their list, and the other way round
pub All-each : {X : Type 0} (P : X → Type 0) (f : ℕ → X) (n : ℕ) (d : X) → ((i : ℕ) → i < n → P (f i)) → All P (each (λ i. f i ∷ []) n)
All-each P f n d h =
    let long = each-length f n in
    All-from_get_or P (each (λ i. f i ∷ []) n) d
    (λ i lt. (let low : i < n = omega (arith, lt, long) in subst P (sym (get_or-each f n i d low)) (h i low)))

pub All-each_at : {X : Type 0} (P : X → Type 0) (f : ℕ → X) (n : ℕ) (d : X) → All P (each (λ i. f i ∷ []) n) → (i : ℕ) → i < n → P (f i)
All-each_at P f n d h i lt =
    let long = each-length f n in subst P (get_or-each f n i d lt) (h i d (omega (arith, lt, long)))
