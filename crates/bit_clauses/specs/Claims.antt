-- Nodes that are to be true, or false.
use Rattle.std.specs.Prelude.{◌≡◌, ◌<◌, ℕ, Bool, true, false, List, slice_index_or}
use Rattle.bit_clauses.specs.declared.claims.Claims.{Claims}
use Rattle.clause_core.specs.declared.literal.Lit.{Lit}
use Rattle.bit_clauses.specs.Nodes.{all_true}

-- node k is marked
abbrev pub marked : List Bool → ℕ → Bool
marked marks k = slice_index_or marks k false

-- where v has the values of the nodes, each marked node below k has the value that its mark claims
abbrev pub ClaimedBy : (ℕ → Bool) → List Bool → List Bool → ℕ → Type 0
ClaimedBy v on off k = (j : ℕ) → j < k → (marked on j ≡ true → v j ≡ true) × (marked off j ≡ true → v j ≡ false)

abbrev pub Claimed : (ℕ → Bool) → Claims → ℕ → Type 0
Claimed v claims k = ClaimedBy v claims.on.items claims.off.items k

-- the clauses are true, and the claims of nodes below k
abbrev pub Meant : (ℕ → Bool) → List (List Lit) → Claims → ℕ → Type 0
Meant v made claims k = (all_true v made ≡ true) × Claimed v claims k
