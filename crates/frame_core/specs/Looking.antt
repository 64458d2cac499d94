-- Lemmas that are looked up.
use Rattle.std.specs.Prelude.{◌≡◌, ◌⊎◌, ◌↔◌, ℕ, ◌<◌, ◌≤◌, Bool, true, false, List, [], length, slice_index_or, All, Contains, if◌then◌else◌}
use Rattle.std.specs.List.Sorted.{IsStrictlyIncreasing}
use Rattle.clause_core.specs.declared.literal.Lit.{Lit}
use Rattle.frame_core.specs.declared.parts.Lemma.{Lemma}
use Rattle.frame_core.specs.declared.parts.Parent.{Parent}
use Rattle.frame_core.specs.Facts.{IsPart}
use Rattle.frame_core.specs.FrameLaw.{lemma_at}

-- for numbers past the last parent
abbrev pub no_parent : Parent
no_parent = record { number = 0; clause = [] }

-- parent number k
abbrev pub parent_at : List Parent → ℕ → Parent
parent_at parents k = slice_index_or parents k no_parent

-- a lemma here has the parent's number and clause
abbrev pub IsHere : List Lemma → Parent → Type 0
IsHere lemmas p = (p.number < length lemmas) × ((lemma_at lemmas p.number).clause ≡ p.clause)

-- the level that a parent has here, 0 where no lemma has its number and clause
abbrev pub IsKeptLevel : List Lemma → Parent → ℕ → Type 0
IsKeptLevel lemmas p level =
    (IsHere lemmas p × (level ≡ (lemma_at lemmas p.number).level)) ⊎ ((IsHere lemmas p → ⊥) × (level ≡ 0))

-- parent k has this level here, which is below the least
abbrev pub IsBehind : List Lemma → ℕ → List Parent → ℕ → ℕ → Type 0
IsBehind lemmas least parents k level =
    (k < length parents) × IsKeptLevel lemmas (parent_at parents k) level × (level < least)

-- lemma n has a part of the literals and at least the level
abbrev pub IsHeldBy : List Lemma → List Lit → ℕ → ℕ → Type 0
IsHeldBy lemmas clause level n =
    (n < length lemmas) × IsPart (lemma_at lemmas n).clause clause × (level ≤ (lemma_at lemmas n).level)

-- no lemma has a part of the literals and at least the level
abbrev pub IsHeldByNone : List Lemma → List Lit → ℕ → Type 0
IsHeldByNone lemmas clause level = (n : ℕ) → IsHeldBy lemmas clause level n → ⊥

-- the literal is marked: positive ones in the first list, at their variables, and negative ones in the second
abbrev pub has_literal : List Bool × List Bool → Lit → Bool
has_literal marks l = slice_index_or (if l.positive then marks.0 else marks.1) l.var false

-- the test tells just the literals of the clause
abbrev pub IsSetOf : List Lit → (Lit → Bool) → Type 0
IsSetOf clause test = (l : Lit) → (test l ≡ true) ↔ Contains clause l

-- lemma n is live, has all these literals and at most this level
abbrev pub CoversAt : List Lemma → List Lit → ℕ → ℕ → Type 0
CoversAt lemmas clause level n =
    (n < length lemmas) × ((lemma_at lemmas n).live ≡ true) × ((lemma_at lemmas n).level ≤ level) × IsPart clause (lemma_at lemmas n).clause

-- the numbers are those of the lemmas below the bound that a lemma with this clause and level covers, from the lowest
-- on
pub record AreCoveredBy (lemmas : List Lemma) (clause : List Lit) (level bound : ℕ) (numbers : List ℕ) : Type 0 where
  pub each : All (CoversAt lemmas clause level) numbers
  pub whole : (n : ℕ) → n < bound → CoversAt lemmas clause level n → Contains numbers n
  pub below : All (λ n. n < bound) numbers
  pub ascending : IsStrictlyIncreasing numbers
