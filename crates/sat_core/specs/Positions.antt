-- Marks on the places of a trail, as a conflict is resolved back to what it came from.
use Rattle.std.specs.Prelude.{◌≡◌, ℕ, ◌<◌, ◌≤◌, Bool, true, false, List, length, drop, All, slice_index, slice_index_or, sum_by}
use Rattle.clause_core.specs.declared.literal.Lit.{Lit}

-- place q of the trail is marked
abbrev pub Marked : List Bool → ℕ → Type 0
Marked marks q = slice_index_or marks q false ≡ true

-- what was marked still is, and so is the place of each literal of the clause, but p
abbrev pub MarksAdded : List ℕ → List Lit → ℕ → List Bool → List Bool → Type 0
MarksAdded positions c p old new =
    ((q : ℕ) → Marked old q → Marked new q)
    × All (λ m. (slice_index positions m.var ≡ p → ⊥) → Marked new (slice_index positions m.var)) c

-- 1 for a mark, 0 for none
abbrev pub one : Bool → ℕ
one true = 1
one false = 0

-- how many places from `floor` on, where the last level begins, are marked
abbrev pub level_marks : List Bool → ℕ → ℕ
level_marks marks floor = sum_by one (drop floor marks)

-- p is the one marked place of the last level
abbrev pub OnlyMark : List Bool → ℕ → ℕ → Type 0
OnlyMark marks floor p =
    (floor ≤ p) × Marked marks p × ((q : ℕ) → floor ≤ q → q < length marks → Marked marks q → q ≡ p)
