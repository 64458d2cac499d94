-- The lengths that a view was given: one more than the numbers that it drew.
use Rattle.std.proofs.Common.{◌≡◌, ℕ, ◌+◌, ◌<◌, ◌≤◌, Bool, true, false, List, [], ◌∷◌, ◌++◌, map, ap, ◌∙◌, subst, arith}
use Rattle.std.specs.Prelude.{nat_lt, MatchBool}
use Rattle.std.proofs.lemmas.List.{map-append}
use Rattle.std.proofs.lemmas.Bool.Decides.{nat_tests}
use Rattle.effort_purse.specs.declared.view.View.{View}
use Rattle.effort_purse.specs.Drawing.{past}
use Rattle.effort_purse.specs.Rule.{Takes, bound_lane, with_bounds, lane, lengths_in}

past-raised : (xs : List ℕ) → past (map (λ k. k + 1) xs) ≤ past xs + 1
past-raised [] = omega arith
past-raised (x ∷ xs) = omega (arith, past-raised xs)

-- a step on the word of bounds gives the next length
pub next_length : (limit n : ℕ) (v w : View) → n < limit → v.bounds.done ≡ false → Takes bound_lane with_bounds limit v n w
    → (past (lengths_in v) ≤ n + 1) × (lengths_in w ≡ lengths_in v ++ (n + 1) ∷ []) × (w.bounds.done ≡ false)
next_length limit n v w below fresh takes =
    let test : nat_lt n limit ≡ true = grind (arith, nat_tests) in
    let took : (past v.bounds.drawn ≤ n) × (w ≡ with_bounds v (lane (v.bounds.drawn ++ n ∷ []) v.bounds.done)) =
    subst (λ (b : Bool). MatchBool b ((past v.bounds.drawn ≤ n) × (w ≡ with_bounds v (lane (v.bounds.drawn ++ n ∷ []) v.bounds.done))) (w ≡ with_bounds v (lane v.bounds.drawn true))) test takes in (
      omega (arith, past-raised v.bounds.drawn),
      ap lengths_in took.1 ∙ map-append (λ (k : ℕ). k + 1) v.bounds.drawn (n ∷ []),
      ap (λ (u : View). u.bounds.done) took.1 ∙ fresh,
    )
