-- Clauses whose variables from a number on are moved up.
use Rattle.std.specs.Prelude.{ℕ, ◌+◌, ◌<◌, ◌≤◌, ◌⊎◌, cond, nat_lt, List, map, All}
use Rattle.clause_core.specs.declared.literal.Lit.{Lit}

-- a variable from number n on is moved up by `by`
abbrev pub moved_var : ℕ → ℕ → ℕ → ℕ
moved_var n by v = cond (nat_lt v n) v (v + by)

abbrev pub moved_lit : ℕ → ℕ → Lit → Lit
moved_lit n by l = record { var = moved_var n by l.var; positive = l.positive }

abbrev pub moved_clause : ℕ → ℕ → List Lit → List Lit
moved_clause n by c = map (moved_lit n by) c

abbrev pub moved_clauses : ℕ → ℕ → List (List Lit) → List (List Lit)
moved_clauses n by cs = map (moved_clause n by) cs

-- no variable from one number on, up to another, is in the clause
abbrev pub Skips : ℕ → ℕ → List Lit → Type 0
Skips from to c = All (λ l. (l.var < from) ⊎ (to ≤ l.var)) c
