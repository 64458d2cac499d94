-- Lists of numbers in their order.
use Rattle.std.specs.Prelude.{◌≡◌, ℕ, ◌==◌, Bool, false, List, Option, None, Some, filter}
use Rattle.std.specs.List.{range_with_len}
use Rattle.bit_formula.specs.Coding.{is_in}

-- numbers below n, each once, in their order
abbrev pub AreInOrder : ℕ → List ℕ → Type 0
AreInOrder n numbers = numbers ≡ filter (is_in numbers) (range_with_len 0 n)

-- there is a number, and it is this one
abbrev pub is_number : Option ℕ → ℕ → Bool
is_number None k = false
is_number (Some n) k = n == k
