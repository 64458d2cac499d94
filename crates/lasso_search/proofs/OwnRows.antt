-- The values of a system's own bits, read of one row after another.
use Rattle.std.proofs.Common.{inl, inr, ◌≡◌, ℕ, ◌+◌, ◌-◌, ◌<◌, Bool, List, [], ◌∷◌, ◌++◌, length, get_or, sym, ap, ◌∙◌, subst, arith}
use Rattle.std.proofs.lemmas.Bool.{cases_lt}
use Rattle.std.proofs.lemmas.List.{get_or_default, get_or_append_left, get_or-append_right}
use Rattle.clause_core.specs.Systems.{TransitionSystem}
use Rattle.ltl_monitor.specs.States.{IsOwnRow}
use Rattle.lasso_search.specs.Lassos.{Lasso, IsOwnLasso}

module _ (sys m : TransitionSystem) where
  -- one row more
  pub own_more : (rows old new : List (List Bool)) (k : ℕ) (row own : List Bool) → length old ≡ k → k < length rows → row ≡ get_or rows k row → new ≡ old ++ own ∷ [] →
      IsOwnRow sys m row own → ((i : ℕ) → i < k → IsOwnRow sys m (get_or rows i []) (get_or old i [])) →
      (i : ℕ) → i < k + 1 → IsOwnRow sys m (get_or rows i []) (get_or new i [])
  own_more rows old new k row own len lt is grown here before i below = elim (cases_lt i k) [
    | inl less ↦
        let e : get_or new i [] ≡ get_or old i [] = ap (λ xs. get_or xs i []) grown ∙ get_or_append_left old (own ∷ []) [] i (omega (arith, less, len)) in
        subst (λ x. IsOwnRow sys m (get_or rows i []) x) (sym e) (before i less)
    | inr more ↦
        let same : k ≡ i = omega (arith, more, below) in
        let zero_left : k - k ≡ 0 = omega arith in
        let e : get_or new k [] ≡ own =
        ap (λ xs. get_or xs k []) grown ∙ get_or-append_right old (own ∷ []) k k [] len (omega arith) ∙ ap (λ j. get_or (own ∷ []) j []) zero_left in
        let f : row ≡ get_or rows k [] = is ∙ get_or_default rows k row [] lt in
        subst (λ j. IsOwnRow sys m (get_or rows j []) (get_or new j [])) same
        (subst (λ x. IsOwnRow sys m (get_or rows k []) x) (sym e) (subst (λ x. IsOwnRow sys m x own) f here))
  ]

  pub own_lasso : (r : Lasso) (rows own : List (List Bool)) (start : ℕ) → rows ≡ r.rows → start ≡ r.start → length own ≡ length rows →
      ((i : ℕ) → i < length rows → IsOwnRow sys m (get_or rows i []) (get_or own i [])) → IsOwnLasso sys m r (record { rows = own; start = start })
  own_lasso r rows own start same starts size each = record {
    size = size ∙ ap length same;
    start = starts;
    rows = λ i lt.
        subst (λ (xs : List (List Bool)). IsOwnRow sys m (get_or xs i []) (get_or own i [])) same
        (each i (let e = ap length same in omega (arith, lt, e)));
  }
