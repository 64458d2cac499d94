-- What the steps of a propagator do to its trail.
use Rattle.std.specs.Prelude.{◌≡◌, ℕ, ◌+◌, ◌<◌, ◌≤◌, Bool, true, false, List, [], ◌∷◌, ◌++◌, length, take, slice_index_or, slice_set, All}
use Rattle.clause_core.specs.declared.literal.Lit.{Lit}
use Rattle.clause_core.specs.Propagation.{Settled}
use Rattle.clause_core.specs.Values.{code, unset}
use Rattle.sat_prop.specs.declared.trail.Trail.{Trail}
use Rattle.sat_prop.specs.declared.sweep.Swept.{Swept}
use Rattle.sat_prop.specs.declared.sweep.Swept.TheVariants.{False, Changed, Still}
use Rattle.sat_prop.specs.Trails.{among, AtRest, FalseOn}

-- from one trail to a later one of the same level: nothing but more literals, and one value set for each of them
pub record Extends (old new : Trail) : Type 0 where
  pub prefix : take (length old.literals.items) new.literals.items ≡ old.literals.items
  pub level_starts : new.level_starts.items ≡ old.level_starts.items
  pub vars : length new.values.items ≡ length old.values.items
  pub fewer : unset new.values.items ≤ unset old.values.items
  pub count : length new.literals.items + unset new.values.items ≡ length old.literals.items + unset old.values.items

-- from one trail to the next: the literal comes last, for this reason
pub record Pushes (old new : Trail) (l : Lit) (reason : ℕ) : Type 0 where
  pub literals : new.literals.items ≡ old.literals.items ++ l ∷ []
  pub reasons : new.reasons.items ≡ slice_set old.reasons.items l.var reason
  pub values : new.values.items ≡ slice_set old.values.items l.var (code l.positive)

-- both trails are alike, but for the places of literals that are not set
pub record IsSameTrail (old new : Trail) : Type 0 where
  pub literals : new.literals.items ≡ old.literals.items
  pub reasons : new.reasons.items ≡ old.reasons.items
  pub values : new.values.items ≡ old.values.items
  pub level_starts : new.level_starts.items ≡ old.level_starts.items

-- from one trail to the next by a decision
pub record Decides (old new : Trail) (l : Lit) : Type 0 where
  pub literals : new.literals.items ≡ old.literals.items ++ l ∷ []
  pub level_starts : new.level_starts.items ≡ old.level_starts.items ++ length old.literals.items ∷ []
  pub fewer : unset new.values.items < unset old.values.items

-- clause number k is false on the trail: a conflict
abbrev pub FalseClause : List (List Lit) → Trail → ℕ → Type 0
FalseClause cs t k = (k < length cs) × FalseOn t.literals.items (slice_index_or cs k [])

-- what one pass over the clauses knows after the first i of them: it set nothing and they are settled, or it
-- set something
abbrev pub StillSo : List (List Lit) → Trail → Trail → ℕ → Bool → Type 0
StillSo cs old new i false = (new.literals.items ≡ old.literals.items) × All (Settled (among new.literals.items)) (take i cs)
StillSo cs old new i true = unset new.values.items < unset old.values.items

-- what one pass found: a false clause, something to set, or nothing left to do
abbrev pub SweptSays : List (List Lit) → Trail → Trail → Swept → Type 0
SweptSays cs old new (False k) = FalseClause cs new k
SweptSays cs old new Changed = unset new.values.items < unset old.values.items
SweptSays cs old new Still = AtRest cs new.literals.items
