-- What the search keeps, and what it does to the clauses.
use Rattle.std.specs.Prelude.{◌≡◌, ℕ, ◌+◌, ◌-◌, ◌<◌, ◌≤◌, ◌⊎◌, Bool, true, false, List, [], ◌∷◌, ◌++◌, length, take, map, suc, slice_index, slice_index_or, Contains, All}
use Rattle.clause_core.specs.declared.literal.Lit.{Lit}
use Rattle.clause_core.specs.Literals.{negate, at, Within}
use Rattle.clause_core.specs.Propagation.{AllFalse, Closed, HasConflict, Follows, Settled}
use Rattle.sat_core.specs.Positions.{Marked}
use Rattle.clause_core.specs.Propagation.{Holds, Reaches, Conflicting, DecisionsOpen}
use Rattle.clause_core.specs.Learning.{Asserting}
use Rattle.sat_prop.specs.declared.trail.Trail.{Trail}
use Rattle.sat_prop.specs.Trails.{is_literal, among, reason_at, AtRest}
use Rattle.sat_core.specs.Queries.{IsLearned, IsSound, Draws, given_of, learned_of, state_of}
use Rattle.sat_core.specs.Paying.{LearnedInTurn}

-- the decisions of the trail
abbrev pub decided : List Lit → List ℕ → List Lit
decided literals level_starts = map (λ s. at literals s) level_starts

-- the clause was learned from the conflict of these decisions
abbrev pub LearnedFrom : List (List Lit) → List Lit → List Lit → Type 0
LearnedFrom live ds c =
    (n : ℕ)
    × (length ds ≡ suc n)
    × DecisionsOpen live ds
    × Conflicting live ds
    × Follows live c
    × All (λ m. Reaches live ds (negate m)) c
    × Asserting live (take n ds) c

-- the clauses after are those before and then learned ones, each learned from all clauses before it
abbrev pub GrowsByLearning : ℕ → List Lit → List (List Lit) → List (List Lit) → Type 0
GrowsByLearning vars assumptions old new =
    (learned : List (List Lit))
    × (new ≡ old ++ learned)
    × ((k : ℕ) → k < length learned → IsLearned vars assumptions (old ++ take k learned) (slice_index_or learned k []))

-- Q holds of each level: of the literals before its decision, and the decision
abbrev pub PerLevel : (List Lit → Lit → Type 0) → List Lit → List ℕ → Type 0
PerLevel Q literals level_starts = (i : ℕ) → i < length level_starts → Q (take (slice_index level_starts i) literals) (at literals (slice_index level_starts i))

-- what holds of each level: nothing was left to do before its decision, which is an assumption or came after all
-- assumptions
abbrev pub Level : List (List Lit) → List Lit → List Lit → Lit → Type 0
Level cs assumptions low l =
    AtRest cs low × (Contains assumptions l ⊎ All (λ a. among low a ≡ true) assumptions)

-- the marked literals of the trail propagate to make the clause false
abbrev pub MarksFalse : List Lit → List (List Lit) → List Bool → List Lit → Type 0
MarksFalse trail cs marks c =
    (t : Lit → Bool) → Closed t cs → ((q : ℕ) → q < length trail → Marked marks q → t (at trail q) ≡ true) → AllFalse t c

-- the literal at p and those at the places in low propagate to make the clause false
abbrev pub PlacesFalse : List Lit → List (List Lit) → ℕ → List ℕ → List Lit → Type 0
PlacesFalse trail cs p low c =
    (t : Lit → Bool) → Closed t cs → t (at trail p) ≡ true → All (λ q. t (at trail q) ≡ true) low → AllFalse t c

-- the literal at p and those at the places in low propagate to all marked literals
abbrev pub Recovers : List Lit → List (List Lit) → List Bool → ℕ → List ℕ → Type 0
Recovers trail cs marks p low =
    (t : Lit → Bool) → Closed t cs → t (at trail p) ≡ true → All (λ q. t (at trail q) ≡ true) low →
    (q : ℕ) → q < length trail → Marked marks q → t (at trail q) ≡ true

-- the literal at q stands before all decisions, which begin at `first`; or a clause forced it whose other
-- literals stand at marked places
abbrev pub Implied : Trail → List (List Lit) → List Bool → ℕ → ℕ → Type 0
Implied t cs marks first q =
    (q < first)
    ⊎ ((0 < reason_at t.literals.items t.reasons.items q)
    × All (λ m. (slice_index t.positions.items m.var ≡ q → ⊥) → Marked marks (slice_index t.positions.items m.var))
    (slice_index_or cs (reason_at t.literals.items t.reasons.items q - 1) []))

-- what was marked still is, and what is newly marked is implied by what is marked
abbrev pub MarksImplied : Trail → List (List Lit) → ℕ → List Bool → List Bool → Type 0
MarksImplied t cs first old new =
    ((r : ℕ) → Marked old r → Marked new r) × ((r : ℕ) → Marked new r → Marked old r ⊎ Implied t cs new first r)

-- low lists the marked places below floor
abbrev pub LowListed : List Bool → ℕ → List ℕ → Type 0
LowListed marks floor low =
    ((q : ℕ) → q < floor → Marked marks q → Contains low q) × All (λ q. (q < floor) × Marked marks q) low

-- what is newly marked is the place of one of the clause's first n literals
abbrev pub OnlyNew : List ℕ → List Lit → ℕ → ℕ → List Bool → List Bool → Type 0
OnlyNew positions c n skip old new =
    (q : ℕ) → Marked new q → Marked old q ⊎ ((j : ℕ) × (j < n) × (slice_index positions (at c j).var ≡ q) × (q ≡ skip → ⊥))

-- no place from n on is marked
abbrev pub NoneFrom : List Bool → ℕ → Type 0
NoneFrom marks n = (q : ℕ) → n ≤ q → Marked marks q → ⊥

-- the negation of the literal at p, and then of those at the places in low
abbrev pub learned_clause : List Lit → ℕ → List ℕ → List Lit
learned_clause trail p low = negate (at trail p) ∷ map (λ q. negate (at trail q)) low

-- unit propagation from the clauses and the core meets a conflict
abbrev pub Refutes : List (List Lit) → List Lit → Type 0
Refutes cs core = (t : Lit → Bool) → Closed t cs → Holds t core → HasConflict t cs

-- what one step of learning does to clauses, trail and levels
abbrev pub LearnSays : ℕ → List (List Lit) → List Lit → List ℕ → List (List Lit) → List Lit → List ℕ → Type 0
LearnSays vars cs literals level_starts cs' literals' level_starts' =
    (c : List Lit)
    × (cs' ≡ cs ++ c ∷ [])
    × Within vars c
    × LearnedFrom cs (decided literals level_starts) c
    × ((n : ℕ)
    × (n < length level_starts)
    × (literals' ≡ take (slice_index level_starts n) literals)
    × (level_starts' ≡ take n level_starts)
    × PerLevel (λ low _. AtRest cs' low) literals' level_starts')

-- before each decision below level n the clause is settled
abbrev pub SettledBelow : List Lit → List ℕ → ℕ → List Lit → Type 0
SettledBelow literals level_starts n c = (i : ℕ) → i < n → Settled (among (take (slice_index level_starts i) literals)) c

-- before no decision below level n the clause's first literal or that at w is false, and the two differ
abbrev pub WatchBelow : List Lit → List ℕ → ℕ → List Lit → ℕ → Type 0
WatchBelow literals level_starts n c w =
    (i : ℕ) → i < n →
    (w < length c)
    × (is_literal (at c 0) (at c w) ≡ false)
    × (among (take (slice_index level_starts i) literals) (negate (at c 0)) ≡ false)
    × (among (take (slice_index level_starts i) literals) (negate (at c w)) ≡ false)

-- the variable of each positive literal of the clause is marked
abbrev pub MarksPositives : List Bool → List Lit → Type 0
MarksPositives positives c = All (λ l. l.positive ≡ true → Marked positives l.var) c

-- each variable has a mark, which is on where a clause has the variable as a positive literal
abbrev pub KnowsPositives : ℕ → List Bool → List (List Lit) → Type 0
KnowsPositives vars positives cs = (length positives ≡ vars) × All (MarksPositives positives) cs

-- the literal or its negation is true
abbrev pub HasValue : List Lit → Lit → Type 0
HasValue literals l = among literals l ≡ true ⊎ among literals (negate l) ≡ true

-- each marked variable has a value
abbrev pub MarkedSet : List Bool → List Lit → Type 0
MarkedSet positives literals = (l : Lit) → Marked positives l.var → HasValue literals l

-- each positive literal of the clauses has a value
abbrev pub PositivesSet : List (List Lit) → List Lit → Type 0
PositivesSet cs literals = All (All (λ l. l.positive ≡ true → HasValue literals l)) cs

-- a ticket was drawn for each clause that was learned
abbrev pub PaidFor : List ℕ → List ℕ → List (List Lit) → List (List Lit) → Type 0
PaidFor before after cs cs' = (drawn : List ℕ) × (after ≡ before ++ drawn) × (length cs' ≡ length cs + length drawn)

-- clauses were learned one after another and paid for by a ticket each; the first of them, in number `kept`, came to the
-- clauses
abbrev pub PaysInTurn : ℕ → List Lit → List (List Lit) → List (List Lit) → List ℕ → List ℕ → Type 0
PaysInTurn vars assumptions old new before after =
    (learned : List (List Lit))
    × (kept : ℕ)
    × LearnedInTurn vars assumptions old learned
    × (new ≡ old ++ take kept learned)
    × Draws before after (length learned)

-- what a solver keeps of the marks that tell which of its clauses were given
pub record Keeps (vars : ℕ) (marks : List Bool) (cs : List (List Lit)) : Type 0 where
  pub known : length marks ≤ length cs
  pub sound : IsSound (state_of vars marks cs)

-- more marks that say the same of the clauses
abbrev pub SameMarks : List Bool → List Bool → List (List Lit) → Type 0
SameMarks old new cs = (given_of new cs ≡ given_of old cs) × (learned_of new cs ≡ learned_of old cs)
