-- Unit propagation (Davis, Putnam 1960; Moskewicz and others 2001).
--
-- A set of literals is a test `t`: the literals that are set true. Where all literals of a clause but
-- one are false, unit propagation sets that one; where all are false, it has met a conflict. What it
-- sets, from the literals that it starts with, is the least set that has these and is closed under this
-- rule. So a literal is set exactly where it is in each such set. A conflict that the least set has,
-- each larger one has too. So a conflict is met exactly where each closed set has one. The definitions
-- below say it by closed sets: no order of the steps is in them.
use Rattle.std.specs.Prelude.{◌≡◌, ℕ, ◌<◌, ◌⊎◌, Bool, true, List, length, take, All, Any, Contains}
use Rattle.clause_core.specs.declared.literal.Lit.{Lit}
use Rattle.clause_core.specs.Literals.{negate, at}

-- each literal of the clause is false
abbrev pub AllFalse : (Lit → Bool) → List Lit → Type 0
AllFalse t c = All (λ m. t (negate m) ≡ true) c

-- each literal of the clause but l is false: the clause is unit on l
abbrev pub UnitIn : (Lit → Bool) → List Lit → Lit → Type 0
UnitIn t c l = Contains c l × All (λ m. (m ≡ l → ⊥) → t (negate m) ≡ true) c

-- the set has each literal that a clause is unit on
abbrev pub Closed : (Lit → Bool) → List (List Lit) → Type 0
Closed t cs = All (λ c. (l : Lit) → UnitIn t c l → t l ≡ true) cs

-- a clause is false, or a literal and its negation are set
abbrev pub HasConflict : (Lit → Bool) → List (List Lit) → Type 0
HasConflict t cs = Any (AllFalse t) cs ⊎ ((l : Lit) × (t l ≡ true) × (t (negate l) ≡ true))

-- the clause follows by unit propagation: its literals set false propagate to a conflict
abbrev pub Follows : List (List Lit) → List Lit → Type 0
Follows cs c = (t : Lit → Bool) → AllFalse t c → Closed t cs → HasConflict t cs

-- unit propagation has nothing left to do at the clause: it is not false, and what it is unit on is set
abbrev pub Settled : (Lit → Bool) → List Lit → Type 0
Settled t c = (AllFalse t c → ⊥) × ((l : Lit) → UnitIn t c l → t l ≡ true)

-- these literals are set
abbrev pub Holds : (Lit → Bool) → List Lit → Type 0
Holds t ds = All (λ d. t d ≡ true) ds

-- unit propagation from the clauses and the literals `ds` sets the literal
abbrev pub Reaches : List (List Lit) → List Lit → Lit → Type 0
Reaches cs ds l = (t : Lit → Bool) → Holds t ds → Closed t cs → t l ≡ true

-- unit propagation from the clauses and the literals `ds` meets a conflict
abbrev pub Conflicting : List (List Lit) → List Lit → Type 0
Conflicting cs ds = (t : Lit → Bool) → Holds t ds → Closed t cs → HasConflict t cs

-- unit propagation from the clauses and the literals `ds` leaves the literal unset
abbrev pub Unset : List (List Lit) → List Lit → Lit → Type 0
Unset cs ds l = (Reaches cs ds l → ⊥) × (Reaches cs ds (negate l) → ⊥)

-- each decision was left unset, and without conflict, by those before it
abbrev pub DecisionsOpen : List (List Lit) → List Lit → Type 0
DecisionsOpen cs ds =
    (i : ℕ) → i < length ds → Unset cs (take i ds) (at ds i) × (Conflicting cs (take i ds) → ⊥)
