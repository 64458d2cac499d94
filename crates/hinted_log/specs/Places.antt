-- Lists as pieces of one list of numbers.
use Rattle.std.specs.Prelude.{ℕ, ◌+◌, ◌≤◌, List, length, take, drop, map, All}
use Rattle.hinted_log.specs.declared.numbers.Place.{Place}

-- the numbers at one place
abbrev pub list_at : List ℕ → Place → List ℕ
list_at numbers p = take p.len (drop p.from numbers)

-- the lists at all places
abbrev pub lists : List ℕ → List Place → List (List ℕ)
lists numbers places = map (list_at numbers) places

-- each place lies within the list
abbrev pub PlacesIn : List ℕ → List Place → Type 0
PlacesIn numbers places = All (λ p. p.from + p.len ≤ length numbers) places
