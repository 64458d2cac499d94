-- Clauses that need no watches, since a later clause says as much.
use Rattle.std.specs.Prelude.{◌≡◌, ℕ, ◌+◌, ◌⊎◌, Bool, true, List, [], length, drop, slice_index_or}
use Rattle.std.specs.List.{list_all, list_any}
use Rattle.clause_core.specs.declared.literal.Lit.{Lit}
use Rattle.sat_prop.specs.Trails.{among}

-- whether each literal of the clause c is one of d: wherever c is true, so is d
abbrev pub covers : List Lit → List Lit → Bool
covers c d = list_all (among d) c

-- whether a clause after number k covers it
abbrev pub is_covered : List (List Lit) → ℕ → Bool
is_covered cs k = list_any (λ c. covers c (slice_index_or cs k [])) (drop (k + 1) cs)

-- each row is as it was, or empty and its clause is covered
abbrev pub Retired : List (List Lit) → List (List Lit) → List (List Lit) → Type 0
Retired cs old new =
    (length new ≡ length old)
    × ((k : ℕ) → (slice_index_or new k [] ≡ slice_index_or old k []) ⊎ ((slice_index_or new k [] ≡ []) × (is_covered cs k ≡ true)))
