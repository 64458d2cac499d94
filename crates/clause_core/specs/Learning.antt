-- Learned clauses (Marques-Silva, Sakallah 1996).
use Rattle.std.specs.Prelude.{◌≡◌, List, [], ◌∷◌, ◌++◌, All, Contains}
use Rattle.clause_core.specs.declared.literal.Lit.{Lit}
use Rattle.clause_core.specs.Literals.{negate}
use Rattle.clause_core.specs.Propagation.{Follows, Reaches, Conflicting, Unset, DecisionsOpen}

-- the clause has one literal that was unset before the last decision; the others were false
abbrev pub Asserting : List (List Lit) → List Lit → List Lit → Type 0
Asserting live before c =
    (m : Lit) × Contains c m × Unset live before m × All (λ k. (k ≡ m → ⊥) → Reaches live before (negate k)) c

-- the clause is learned from the conflict that the decisions propagate to: it follows by unit propagation from
-- the live clauses, it is false there, and it has just one literal that was unset before the last decision
abbrev pub Learned : List (List Lit) → List Lit → Lit → List Lit → Type 0
Learned live before last c =
    DecisionsOpen live (before ++ last ∷ [])
    × Conflicting live (before ++ last ∷ [])
    × Follows live c
    × All (λ m. Reaches live (before ++ last ∷ []) (negate m)) c
    × Asserting live before c
