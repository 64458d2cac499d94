-- Trails of literals, and what holds of them.
use Rattle.std.specs.Prelude.{◌≡◌, ℕ, ◌-◌, ◌<◌, ◌≤◌, ◌&&◌, Bool, true, List, [], length, take, eqb, slice_index, slice_index_or, Contains, All}
use Rattle.std.specs.List.{list_any}
use Rattle.clause_core.specs.declared.literal.Lit.{Lit}
use Rattle.clause_core.specs.Values.{code, holds}
use Rattle.clause_core.specs.Literals.{negate, at}
use Rattle.clause_core.specs.Propagation.{Settled}

-- whether both are the same literal, as a test that computes
abbrev pub is_literal : Lit → Lit → Bool
is_literal l m = eqb m.var l.var && eqb (code m.positive) (code l.positive)

-- whether the literal is one of these: the set of the literals of a trail
abbrev pub among : List Lit → Lit → Bool
among trail l = list_any (is_literal l) trail

-- the values are those that the literals give
abbrev pub ValuesMatch : List ℕ → List Lit → Type 0
ValuesMatch values literals = (l : Lit) → among literals l ≡ holds values l

-- why the literal at p stands there: 0 for a decision, else one more than the number of the clause
abbrev pub reason_at : List Lit → List ℕ → ℕ → ℕ
reason_at literals reasons p = slice_index reasons (at literals p).var

-- the decisions stand in the order of their levels
abbrev pub StartsRise : List ℕ → Type 0
StartsRise level_starts = (i j : ℕ) → i < j → j < length level_starts → slice_index level_starts i < slice_index level_starts j

-- each level begins inside the trail
abbrev pub StartsIn : List ℕ → List Lit → Type 0
StartsIn level_starts literals = (i : ℕ) → i < length level_starts → slice_index level_starts i < length literals

-- each literal that no clause forced begins a level
abbrev pub DecisionsBegin : List Lit → List ℕ → List ℕ → Type 0
DecisionsBegin literals reasons level_starts = (p : ℕ) → p < length literals → reason_at literals reasons p ≡ 0 → list_any (λ s. eqb s p) level_starts ≡ true

-- each variable of the trail has the place of its literal
abbrev pub PlacesMatch : List Lit → List ℕ → Type 0
PlacesMatch trail positions = (q : ℕ) → q < length trail → slice_index positions (at trail q).var ≡ q

-- the clause forced the literal at p: it has it, and its other literals were false before p
abbrev pub Forced : List Lit → ℕ → List Lit → Type 0
Forced trail p c =
    Contains c (at trail p)
    × All (λ m. (m ≡ at trail p → ⊥) → (q : ℕ) × (q < p) × (at trail q ≡ negate m)) c

-- each literal with a reason was forced by the clause that its reason names
abbrev pub Reasoned : List Lit → List ℕ → List (List Lit) → Type 0
Reasoned literals reasons cs =
    (p : ℕ) → p < length literals → 0 < reason_at literals reasons p →
    (reason_at literals reasons p ≤ length cs) × Forced literals p (slice_index_or cs (reason_at literals reasons p - 1) [])

-- no clause is false, and each literal that a clause is unit on is set: unit propagation is complete
abbrev pub AtRest : List (List Lit) → List Lit → Type 0
AtRest cs literals = All (Settled (among literals)) cs

-- each literal of the clause is false on the trail
abbrev pub FalseOn : List Lit → List Lit → Type 0
FalseOn literals c = All (λ m. (q : ℕ) × (q < length literals) × (at literals q ≡ negate m)) c

-- as Forced, by tests: so any two proofs of it are equal, and a type may keep it
abbrev pub Backed : List Lit → ℕ → List Lit → Type 0
Backed literals p c = (among c (at literals p) ≡ true) × All (λ m. (m ≡ at literals p → ⊥) → among (take p literals) (negate m) ≡ true) c

-- each literal that is no decision stands in the clause that its reason names, whose other literals were false
-- before it: as Reasoned, by tests
abbrev pub Based : List Lit → List ℕ → List (List Lit) → Type 0
Based literals reasons cs =
    (p : ℕ) → p < length literals → 0 < reason_at literals reasons p →
    (reason_at literals reasons p ≤ length cs) × Backed literals p (slice_index_or cs (reason_at literals reasons p - 1) [])
