-- Lists of numbers.
use Rattle.std.specs.Prelude.{ℕ, ◌==◌, Bool, true, not, ◌&&◌, List, [], ◌∷◌}
use Rattle.std.specs.List.{list_any}

-- no number stands twice
abbrev pub is_distinct : List ℕ → Bool
is_distinct [] = true
is_distinct (n ∷ ns) = not (list_any (λ m. n == m) ns) && is_distinct ns

-- f of the elements at the same place
abbrev pub bit_by_bit : (Bool → Bool → Bool) → List Bool → List Bool → List Bool
bit_by_bit f [] ys = []
bit_by_bit f (x ∷ xs) [] = []
bit_by_bit f (x ∷ xs) (y ∷ ys) = f x y ∷ bit_by_bit f xs ys
