-- What the steps of the search say.
use Rattle.std.specs.Prelude.{◌≡◌, ℕ, ◌≤◌, ◌⊎◌, ⊤, Bool, true, false, List, length, take, Contains, All}
use Rattle.clause_core.specs.declared.literal.Lit.{Lit}
use Rattle.clause_core.specs.Literals.{negate}
use Rattle.sat_prop.specs.Trails.{among, AtRest}
use Rattle.sat_core.specs.declared.search.Next.{Next}
use Rattle.sat_core.specs.declared.search.Next.TheVariants.{AllTrue, Decide, Fails}
use Rattle.sat_core.specs.declared.search.Seen.{Seen}
use Rattle.sat_core.specs.declared.search.SearchOutcome.{SearchOutcome}
use Rattle.sat_core.specs.declared.search.SearchOutcome.TheVariants.{Sat, Unsat, Spent}
use Rattle.sat_core.specs.Searching.{Refutes, PositivesSet}

-- what is to be decided next: all assumptions are true; or this one is unset; or this one is false
abbrev pub NextSays : List Lit → List Lit → Next → Type 0
NextSays literals assumptions AllTrue = All (λ a. among literals a ≡ true) assumptions
NextSays literals assumptions (Decide l) = Contains assumptions l × (among literals l ≡ false) × (among literals (negate l) ≡ false)
NextSays literals assumptions (Fails a) = Contains assumptions a × (among literals (negate a) ≡ true)

-- the first `count` assumptions are true, by the first `until` literals of the trail
abbrev pub IsSeen : List Lit → List Lit → Seen → Type 0
IsSeen literals assumptions seen =
    (seen.until ≤ length literals) × All (λ a. among (take seen.until literals) a ≡ true) (take seen.count assumptions)

-- how a search ended: with nothing left to do, and each assumption and each positive literal set; with a core of the
-- assumptions; or with a spent purse
abbrev pub OutcomeSays : List Lit → ℕ → Bool → List (List Lit) → List Lit → SearchOutcome → Type 0
OutcomeSays assumptions budget over cs literals Sat =
    AtRest cs literals × All (λ a. among literals a ≡ true) assumptions × PositivesSet cs literals
OutcomeSays assumptions budget over cs literals (Unsat core) = All (Contains assumptions) core.items × Refutes cs core.items
OutcomeSays assumptions budget over cs literals (Spent d b) = (d ≡ budget) × (b ≡ budget) × (over ≡ true)

-- the search ended with a core
abbrev pub HasCore : SearchOutcome → Type 0
HasCore Sat = ⊥
HasCore (Unsat core) = ⊤
HasCore (Spent d b) = ⊥

-- no assumption is the negation of another
abbrev pub NoneOpposed : List Lit → Type 0
NoneOpposed assumptions = (a : Lit) → Contains assumptions a → Contains assumptions (negate a) → ⊥

-- the core has a literal that is false on the trail, or one and its negation
abbrev pub RefutesOnTrail : List Lit → List Lit → Type 0
RefutesOnTrail literals core = (a : Lit) × Contains core a × (among literals (negate a) ≡ true ⊎ Contains core (negate a))
