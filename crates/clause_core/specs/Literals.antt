-- Literals, and lists of them.
use Rattle.std.specs.Prelude.{ℕ, ◌<◌, false, not, List, [], ◌∷◌, All, map, slice_index_or}
use Rattle.clause_core.specs.declared.literal.Lit.{Lit}

-- the same variable with the other sign
abbrev pub negate : Lit → Lit
negate l = record { var = l.var; positive = not l.positive }

-- each variable is below `vars`
abbrev pub Within : ℕ → List Lit → Type 0
Within vars c = All (λ l. l.var < vars) c

-- a clause of one literal for each literal
abbrev pub units : List Lit → List (List Lit)
units ls = map (λ l. l ∷ []) ls

-- a literal for places past the end of a list
abbrev pub none_lit : Lit
none_lit = record { var = 0; positive = false }

-- the literal at place q
abbrev pub at : List Lit → ℕ → Lit
at lits q = slice_index_or lits q none_lit
