-- What is true before all decisions.
use Rattle.std.specs.Prelude.{ℕ, ◌<◌, List, length, take, slice_index, slice_index_or}
use Rattle.clause_core.specs.declared.literal.Lit.{Lit}
use Rattle.sat_prop.specs.Watches.{ShortDone}

-- the literals before all decisions
abbrev pub root : List Lit → List ℕ → List Lit
root literals level_starts = take (slice_index_or level_starts 0 (length literals)) literals

-- the first n numbers of the list of short clauses are those of clauses, and each of these that has no two different
-- literals has one that is true in u
abbrev pub ShortSwept : List (List Lit) → List ℕ → ℕ → List Lit → Type 0
ShortSwept cs short n u =
    (j : ℕ) → j < n → (j < length short) × (slice_index short j < length cs) × ShortDone cs u (slice_index short j)
