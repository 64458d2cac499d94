-- Clauses as pieces of one list of literals.
use Rattle.std.specs.Prelude.{ℕ, ◌+◌, ◌<◌, ◌≤◌, List, length, take, drop, map, All, slice_index_or}
use Rattle.clause_core.specs.declared.literal.Lit.{Lit}
use Rattle.clause_core.specs.declared.clause.Span.{Span}

-- the literals of one span
abbrev pub piece : List Lit → Span → List Lit
piece lits s = take s.len (drop s.from lits)

-- the clauses of all spans
abbrev pub pieces : List Lit → List Span → List (List Lit)
pieces lits spans = map (piece lits) spans

-- each span lies within the list
abbrev pub SpansIn : List Lit → List Span → Type 0
SpansIn lits spans = All (λ s. s.from + s.len ≤ length lits) spans

-- each span begins at the end of each one before it, or later
abbrev pub AreInOrder : List Span → Type 0
AreInOrder spans =
    (j k : ℕ) → (d : Span) → j < k → k < length spans →
    (slice_index_or spans j d).from + (slice_index_or spans j d).len ≤ (slice_index_or spans k d).from

-- what a buffer of clauses keeps
pub record IsBuffer (lits : List Lit) (spans : List Span) : Type 0 where
  pub within : SpansIn lits spans
  pub in_order : AreInOrder spans
