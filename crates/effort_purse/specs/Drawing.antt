-- Numbers that are drawn out of a budget.
use Rattle.std.specs.Prelude.{◌≡◌, ℕ, zero, suc, ◌+◌, ◌<◌, ◌≤◌, max, Bool, true, false, List, [], ◌∷◌, ◌++◌}
use Rattle.effort_purse.specs.declared.draw.Draw.{Draw}
use Rattle.effort_purse.specs.declared.draw.Draw.TheVariants.{Ticket, Spent}
use Rattle.effort_purse.specs.declared.draw.NextBound.{NextBound}
use Rattle.effort_purse.specs.declared.draw.NextBound.TheVariants.{Bound, NoMore}

-- one more than the greatest number of a list, and 0 for the empty list
abbrev pub past : List ℕ → ℕ
past [] = 0
past (x ∷ xs) = max (x + 1) (past xs)

-- the numbers 0, 1, .. below n, in order
abbrev pub numbers_below : ℕ → List ℕ
numbers_below zero = []
numbers_below (suc n) = numbers_below n ++ n ∷ []

-- one draw: a number below the budget and above each one drawn before, or none from now on
abbrev pub DrawsOne : ℕ → List ℕ → Bool → Draw → List ℕ → Bool → Type 0
DrawsOne budget before spent (Ticket n) after over = (n < budget) × (past before ≤ n) × (after ≡ before ++ n ∷ []) × (spent ≡ false) × (over ≡ false)
DrawsOne budget before spent (Spent d b) after over = (d ≡ budget) × (b ≡ budget) × (after ≡ before) × (over ≡ true)

-- one length: from 1 to the bounds and above each one given before, or none from now on
abbrev pub BoundsOne : ℕ → List ℕ → Bool → NextBound → List ℕ → Bool → Type 0
BoundsOne bounds before ended (Bound n) after over = (0 < n) × (n ≤ bounds) × (past before ≤ n) × (after ≡ before ++ n ∷ []) × (ended ≡ false) × (over ≡ false)
BoundsOne bounds before ended (NoMore b) after over = (b ≡ bounds) × (after ≡ before) × (over ≡ true)
