-- Lists of symbols.
use Rattle.std.specs.Prelude.{◌≡◌, ℕ, ◌==◌, Bool, false, List, Option, None, Some, All, IsTrue, slice_get}
use Rattle.std.specs.List.{list_any}

-- it is this number
abbrev pub is_some_of : ℕ → Option ℕ → Bool
is_some_of n None = false
is_some_of n (Some m) = m == n

-- the number is in the list
abbrev pub has : List ℕ → ℕ → Bool
has ns n = list_any (λ m. m == n) ns

-- each number of the first list is in the second
abbrev pub AreIn : List ℕ → List ℕ → Type 0
AreIn ms ns = All (λ m. IsTrue (has ns m)) ms

-- the second list begins with the first
abbrev pub Begins : List ℕ → List ℕ → Type 0
Begins ms ns = (k n : ℕ) → slice_get ms k ≡ Some n → slice_get ns k ≡ Some n
