-- What a solver knows, and what a query answers and adds.
use Rattle.std.specs.Prelude.{◌≡◌, ℕ, ◌+◌, ◌<◌, ◌⊎◌, ⊤, Bool, true, false, List, [], ◌∷◌, ◌++◌, length, take, map, slice_index_or, Contains, All}
use Rattle.clause_core.specs.declared.literal.Lit.{Lit}
use Rattle.clause_core.specs.Literals.{Within, negate, at}
use Rattle.clause_core.specs.Assignments.{assignment_of, ClauseTrue}
use Rattle.clause_core.specs.Propagation.{Reaches, Conflicting}
use Rattle.clause_core.specs.Derivations.{AllStepsBelow, Derives}
use Rattle.clause_core.specs.Learning.{Learned}
use Rattle.sat_core.specs.declared.answer.Answer.{Answer}
use Rattle.sat_core.specs.declared.answer.Answer.TheVariants.{Sat, Unsat, Spent}

-- a solver's variables, the clauses that were given to it, and those that it learned, in their orders
pub record State : Type 0 where
  pub vars : ℕ
  pub given : List (List Lit)
  pub learned : List (List Lit)

-- the clauses whose mark is true
abbrev pub given_of : List Bool → List (List Lit) → List (List Lit)
given_of [] cs = []
given_of (mark ∷ marks) [] = []
given_of (true ∷ marks) (c ∷ cs) = c ∷ given_of marks cs
given_of (false ∷ marks) (c ∷ cs) = given_of marks cs

-- the clauses whose mark is false, and those that have none
abbrev pub learned_of : List Bool → List (List Lit) → List (List Lit)
learned_of [] cs = cs
learned_of (mark ∷ marks) [] = []
learned_of (true ∷ marks) (c ∷ cs) = learned_of marks cs
learned_of (false ∷ marks) (c ∷ cs) = c ∷ learned_of marks cs

-- the state of these clauses, where the marks tell which of them were given
abbrev pub state_of : ℕ → List Bool → List (List Lit) → State
state_of vars marks cs = record { vars = vars; given = given_of marks cs; learned = learned_of marks cs }

-- each learned clause follows by unit propagation from the given ones and those learned before it
abbrev pub IsSound : State → Type 0
IsSound s = AllStepsBelow s.vars s.given s.learned (length s.learned)

-- each decision is an assumption, or was made where unit propagation had set all assumptions
abbrev pub AssumptionsFirst : List (List Lit) → List Lit → List Lit → Type 0
AssumptionsFirst live assumptions decisions =
    (i : ℕ) → i < length decisions →
    Contains assumptions (at decisions i) ⊎ All (λ a. Reaches live (take i decisions) a) assumptions

-- the clause was learned from a conflict of the live clauses, to which decisions led, assumptions first
abbrev pub IsLearned : ℕ → List Lit → List (List Lit) → List Lit → Type 0
IsLearned vars assumptions live c =
    Within vars c
    × ((before : List Lit) × (last : Lit) × AssumptionsFirst live assumptions (before ++ last ∷ []) × Learned live before last c)

-- from one state to a later one: nothing but more learned clauses, each learned from all clauses before it
pub record Learns (assumptions : List Lit) (old new : State) : Type 0 where
  pub vars : new.vars ≡ old.vars
  pub given : new.given ≡ old.given
  pub more : List (List Lit)
  pub grown : new.learned ≡ old.learned ++ more
  pub each : (k : ℕ) → k < length more →
      IsLearned old.vars assumptions ((old.given ++ old.learned) ++ take k more) (slice_index_or more k [])

-- no decision is needed to refute the clauses with these assumptions: unit propagation meets a conflict, or sets the
-- negation of an assumption (as where it is a unit clause); or one assumption is the negation of another
abbrev pub IsRefutedAtOnce : List (List Lit) → List Lit → Type 0
IsRefutedAtOnce cs assumptions =
    Conflicting cs []
    ⊎ ((a : Lit) × Contains assumptions a × (Reaches cs [] (negate a) ⊎ Contains assumptions (negate a)))

-- the values make each clause and each assumption true
abbrev pub IsModel : List (List Lit) → List Lit → List Bool → Type 0
IsModel cs assumptions values =
    All (ClauseTrue (assignment_of values)) cs × All (λ a. assignment_of values a.var ≡ a.positive) assumptions

-- each literal as a clause
abbrev pub units : List Lit → List (List Lit)
units literals = map (λ l. l ∷ []) literals

-- the derivation that these learned clauses and the empty clause are
abbrev pub log_of : List (List Lit) → List (List Lit)
log_of learned = learned ++ [] ∷ []

-- the answer is right, where these clauses were learned by then: `budget` is the purse's, and `over` says whether the purse is spent afterwards
abbrev pub AnswerSays : ℕ → List (List Lit) → List (List Lit) → List Lit → ℕ → Bool → Answer → Type 0
AnswerSays vars given learned assumptions budget over (Sat model) = (length model ≡ vars) × IsModel given assumptions model
AnswerSays vars given learned assumptions budget over (Unsat core) =
    All (Contains assumptions) core.items × Derives vars (given ++ units core.items) (log_of learned)
AnswerSays vars given learned assumptions budget over (Spent d b) = (d ≡ budget) × (b ≡ budget) × (over ≡ true)

-- the answer is that the purse was spent
abbrev pub IsSpent : Answer → Type 0
IsSpent (Sat model) = ⊥
IsSpent (Unsat core) = ⊥
IsSpent (Spent d b) = ⊤

-- so many tickets were drawn
abbrev pub Draws : List ℕ → List ℕ → ℕ → Type 0
Draws before after n = (drawn : List ℕ) × (after ≡ before ++ drawn) × (length drawn ≡ n)

-- one ticket was drawn for the query, and one for each of the n learned clauses; or none, and none was learned,
-- where the query's own ticket was refused
abbrev pub IsPaid : List ℕ → List ℕ → ℕ → Answer → Type 0
IsPaid before after n a = Draws before after (n + 1) ⊎ (IsSpent a × (after ≡ before) × (n ≡ 0))

-- the answer is that the clauses and the assumptions can't all be true
abbrev pub IsUnsat : Answer → Type 0
IsUnsat (Sat model) = ⊥
IsUnsat (Unsat core) = ⊤
IsUnsat (Spent d b) = ⊥

-- nothing is learned, and no more than one ticket is drawn
abbrev pub CostsOneTicket : State → State → List ℕ → List ℕ → Type 0
CostsOneTicket old new before after = (new ≡ old) × (after ≡ before ⊎ Draws before after 1)

-- the query is refuted for its own ticket alone, or that was refused
abbrev pub IsRefutedForOne : List ℕ → List ℕ → Answer → Type 0
IsRefutedForOne before after a = (IsUnsat a × Draws before after 1) ⊎ (IsSpent a × (after ≡ before))
