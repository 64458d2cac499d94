-- Clauses that may be dropped: unit propagation makes one of their literals true without decisions (Eén and Sörensson
-- 2003).
use Rattle.std.specs.Prelude.{◌↔◌, ◌⊎◌, List, [], All, Any, Contains}
use Rattle.clause_core.specs.declared.literal.Lit.{Lit}
use Rattle.clause_core.specs.Propagation.{Follows, Reaches, Conflicting, DecisionsOpen}

-- unit propagation from the clauses `cs` sets a literal of the clause without decisions, as where it is a unit clause
-- of them
abbrev pub IsSatisfied : List (List Lit) → List Lit → Type 0
IsSatisfied cs c = Any (Reaches cs []) c

-- the kept clauses are of all of them, and each of the others is satisfied by those kept
pub record DropsSatisfied (all kept : List (List Lit)) : Type 0 where
  pub kept_in : All (Contains all) kept
  pub each : All (λ c. Contains kept c ⊎ IsSatisfied kept c) all

-- the same clauses follow from both, the same decisions conflict and are open; and where decisions do not conflict,
-- unit propagation from them sets the same literals
pub record PropagateAlike (cs bs : List (List Lit)) : Type 0 where
  pub follows : (c : List Lit) → Follows cs c ↔ Follows bs c
  pub conflicting : (ds : List Lit) → Conflicting cs ds ↔ Conflicting bs ds
  pub reaches : (ds : List Lit) (l : Lit) → (Conflicting bs ds → ⊥) → Reaches cs ds l ↔ Reaches bs ds l
  pub openings : (ds : List Lit) → DecisionsOpen cs ds ↔ DecisionsOpen bs ds
