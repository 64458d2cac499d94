-- Watched literals (Moskewicz and others 2001): a clause is looked at only where one of its two watches is false.
use Rattle.std.specs.Prelude.{◌≡◌, ℕ, ◌+◌, ◌*◌, ◌<◌, Bool, true, false, List, [], length, take, eqb, slice_index, slice_index_or, All, Option, MatchOption, ◌⊎◌}
use Rattle.std.specs.List.{list_any}
use Rattle.clause_core.specs.declared.literal.Lit.{Lit}
use Rattle.clause_core.specs.Literals.{negate, none_lit, at}
use Rattle.clause_core.specs.Propagation.{UnitIn, AllFalse}
use Rattle.sat_prop.specs.declared.watch.Watches.{Watches}
use Rattle.sat_prop.specs.declared.watch.Finding.{Finding}
use Rattle.sat_prop.specs.declared.watch.Finding.TheVariants.{Hit, Move, Force, False}
use Rattle.sat_prop.specs.Trails.{is_literal, among}
use Rattle.sat_prop.specs.Covers.{is_covered}

-- watches for places past the end of a list
abbrev pub none_watches : Watches
none_watches = record { a = none_lit; b = none_lit }

-- the watches of clause number k
abbrev pub watches_at : List Watches → ℕ → Watches
watches_at watches k = slice_index_or watches k none_watches

-- a literal of the clause is true in the set u
abbrev pub TrueIn : List Lit → List Lit → Type 0
TrueIn u c = list_any (among u) c ≡ true

-- a watch that is false in s has a true literal of the clause in u
abbrev pub Guarded : List Lit → List Lit → Watches → List Lit → Type 0
Guarded s u h c = (among s (negate h.a) ≡ true → TrueIn u c) × (among s (negate h.b) ≡ true → TrueIn u c)

-- the watches are two different literals; a clause without two has no watches: it stands in a list of its own, or a
-- later clause covers it
abbrev pub HasTwo : Watches → Type 0
HasTwo h = is_literal h.a h.b ≡ false

-- the watches are literals of the clause
abbrev pub WatchesIn : Watches → List Lit → Type 0
WatchesIn h c = (among c h.a ≡ true) × (among c h.b ≡ true)

-- the watches of each clause that has two are literals of it
abbrev pub AllWatchesIn : List (List Lit) → List Watches → Type 0
AllWatchesIn cs watches = (k : ℕ) → k < length cs → HasTwo (watches_at watches k) → WatchesIn (watches_at watches k) (slice_index_or cs k [])

-- each clause that has two watches is guarded
abbrev pub AllGuarded : List (List Lit) → List Watches → List Lit → List Lit → Type 0
AllGuarded cs watches s u = (k : ℕ) → k < length cs → HasTwo (watches_at watches k) → Guarded s u (watches_at watches k) (slice_index_or cs k [])

-- 1 for a positive literal, 0 for a negative one
abbrev pub one : Bool → ℕ
one true = 1
one false = 0

-- the number of the list of a literal
abbrev pub cell : Lit → ℕ
cell l = 2 * l.var + one l.positive

-- clause number k is in list number n
abbrev pub Listed : List (List ℕ) → ℕ → ℕ → Type 0
Listed lists n k = list_any (λ x. eqb x k) (slice_index_or lists n []) ≡ true

-- each clause that has two watches is in the lists of both
abbrev pub AllListed : List Watches → List (List ℕ) → Type 0
AllListed watches lists =
    (k : ℕ) → k < length watches → HasTwo (watches_at watches k) →
    Listed lists (cell (watches_at watches k).a) k × Listed lists (cell (watches_at watches k).b) k

-- where clause number k watches f, it has a true literal: it need not be looked at for f
abbrev pub DoneWith : List (List Lit) → List Watches → List Lit → Lit → ℕ → Type 0
DoneWith cs watches tr f k =
    k < length cs → HasTwo (watches_at watches k) → (((watches_at watches k).a ≡ f) → TrueIn tr (slice_index_or cs k [])) × (((watches_at watches k).b ≡ f) → TrueIn tr (slice_index_or cs k []))

-- what was found at a clause whose watch beside `other` is false: `other` is true; or another literal is not
-- false; or `other` is forced; or the clause is false
abbrev pub FindingSays : (Lit → Bool) → List Lit → Lit → Finding → Type 0
FindingSays t c other Hit = t other ≡ true
FindingSays t c other (Move g j) = ((j < length c) × (1 < j) × (at c j ≡ g)) × (t (negate g) ≡ false) × (is_literal g other ≡ false)
FindingSays t c other (Force) = UnitIn t c other × (t other ≡ false) × (t (negate other) ≡ false)
FindingSays t c other (False) = AllFalse t c

-- the other watch, where f is one of two different ones
abbrev pub OtherSays : Watches → Lit → Option Lit → Type 0
OtherSays h f result = MatchOption result (HasTwo h → (h.a ≡ f → ⊥) × (h.b ≡ f → ⊥)) (λ o. HasTwo h × ((h.a ≡ f) × (o ≡ h.b) ⊎ (h.b ≡ f) × (o ≡ h.a)))

-- each clause that was guarded stays so, at each part of the trail
abbrev pub Kept : List (List Lit) → List Watches → List Watches → List Lit → Type 0
Kept cs old new literals =
    (s u : List Lit) → ((l : Lit) → among s l ≡ true → among literals l ≡ true) → AllGuarded cs old s u → AllGuarded cs new s u

-- a clause of two watches stays one
abbrev pub KeepsTwo : List Watches → List Watches → Type 0
KeepsTwo old new = (k : ℕ) → HasTwo (watches_at old k) → HasTwo (watches_at new k)

-- no two literals of the clause differ
abbrev pub HasOneLiteral : List Lit → Type 0
HasOneLiteral c = All (λ m. is_literal m (at c 0) ≡ true) c

-- the number k is in the list of short clauses
abbrev pub InShort : List ℕ → ℕ → Type 0
InShort short k = list_any (λ x. eqb x k) short ≡ true

-- a clause without two watches that no later one covers has no two different literals, and is in the list of short
-- clauses
abbrev pub ShortListed : List (List Lit) → List Watches → List ℕ → Type 0
ShortListed cs watches short =
    (k : ℕ) → k < length cs → is_literal (watches_at watches k).a (watches_at watches k).b ≡ true → is_covered cs k ≡ false →
    HasOneLiteral (slice_index_or cs k []) × InShort short k

-- each clause without two watches that no later one covers has a true literal in u
abbrev pub ShortTrue : List (List Lit) → List Watches → List Lit → Type 0
ShortTrue cs watches u =
    (k : ℕ) → k < length cs → is_literal (watches_at watches k).a (watches_at watches k).b ≡ true → is_covered cs k ≡ false →
    TrueIn u (slice_index_or cs k [])

-- where clause number k has no two different literals, one is true in u
abbrev pub ShortDone : List (List Lit) → List Lit → ℕ → Type 0
ShortDone cs u k = k < length cs → HasOneLiteral (slice_index_or cs k []) → TrueIn u (slice_index_or cs k [])

-- before each decision the clauses are guarded, and the short ones true
abbrev pub LevelsGuarded : List (List Lit) → List Watches → List Lit → List ℕ → Type 0
LevelsGuarded cs watches literals level_starts =
    (i : ℕ) → i < length level_starts →
    AllGuarded cs watches (take (slice_index level_starts i) literals) (take (slice_index level_starts i) literals)
    × ShortTrue cs watches (take (slice_index level_starts i) literals)

-- before no decision the clause's first literal or that at w is false, and the two differ
abbrev pub Watchable : List Lit → List ℕ → List Lit → ℕ → Type 0
Watchable literals level_starts c w =
    (i : ℕ) → i < length level_starts →
    (w < length c)
    × (is_literal (at c 0) (at c w) ≡ false)
    × (among (take (slice_index level_starts i) literals) (negate (at c 0)) ≡ false)
    × (among (take (slice_index level_starts i) literals) (negate (at c w)) ≡ false)

-- the watches that a new clause gets: the first literal and that at w where these differ, else two that differ,
-- if any do
abbrev pub WatchesSay : List Lit → ℕ → Watches → Type 0
WatchesSay c w h =
    (HasTwo h → WatchesIn h c)
    × (is_literal h.a h.b ≡ true → HasOneLiteral c)
    × (w < length c → is_literal (at c 0) (at c w) ≡ false → (h.a ≡ at c 0) × (h.b ≡ at c w))
    × (is_literal h.a h.b ≡ true → (cell h.a ≡ 0) × (cell h.b ≡ 0))

-- no entry of a list is lost
abbrev pub ListsMore : List (List ℕ) → List (List ℕ) → Type 0
ListsMore old new = (n j : ℕ) → Listed old n j → Listed new n j

-- no entry of the list of short clauses is lost
abbrev pub ShortMore : List ℕ → List ℕ → Type 0
ShortMore old new = (j : ℕ) → InShort old j → InShort new j

-- where clause number k of these watches is found: in the lists of both, or in the list of short clauses
abbrev pub Enlisted : List (List ℕ) → List ℕ → Watches → ℕ → Type 0
Enlisted lists short h k =
    (HasTwo h → Listed lists (cell h.a) k × Listed lists (cell h.b) k) × (is_literal h.a h.b ≡ true → InShort short k)
