-- One past the greatest number of a list.
use Rattle.std.proofs.Common.{◌≡◌, ℕ, zero, suc, ◌+◌, ◌-◌, ◌<◌, ◌≤◌, max, List, [], ◌∷◌, ◌++◌, refl, ap, ◌∙◌, arith}
use Rattle.effort_purse.specs.Drawing.{past, numbers_below}

pub past-append : (xs ys : List ℕ) → past (xs ++ ys) ≡ max (past xs) (past ys)
past-append [] ys = omega arith
past-append (x ∷ xs) ys = omega (arith, past-append xs ys)

-- a number that is not below the others ends the list
pub past-snoc : (before : List ℕ) (n : ℕ) → past before ≤ n → past (before ++ n ∷ []) ≡ n + 1
past-snoc before n h = omega (arith, past-append before (n ∷ []))

pub past-numbers_below : (n : ℕ) → past (numbers_below n) ≡ n
past-numbers_below zero = refl
past-numbers_below (suc n) = omega (arith, past-snoc (numbers_below n) n (omega (arith, past-numbers_below n)))

-- a ticket brings a loop of draws nearer to its end, by the measure `budget - past tickets`
pub ticket_nears_end : (budget later : ℕ) (before : List ℕ) (n : ℕ) (after : List ℕ) → later ≡ budget → n < budget → past before ≤ n → after ≡ before ++ n ∷ []
    → later - past after < budget - past before
ticket_nears_end budget later before n after same below above is =
    let top : past after ≡ n + 1 = ap past is ∙ past-snoc before n above in
    omega arith
