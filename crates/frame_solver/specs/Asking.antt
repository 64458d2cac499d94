-- What a query asks of the groups, and what its answer says.
use Rattle.std.specs.Prelude.{◌≡◌, ℕ, ◌+◌, ◌<◌, ◌≤◌, ◌⊎◌, Bool, true, List, length, All, Contains}
use Rattle.clause_core.specs.declared.literal.Lit.{Lit}
use Rattle.clause_core.specs.Assignments.{ClauseTrue, assignment_of}
use Rattle.sat_core.specs.declared.answer.Answer.{Answer}
use Rattle.sat_core.specs.declared.answer.Answer.TheVariants.{Sat, Unsat, Spent}
use Rattle.sat_core.specs.Queries.{State}
use Rattle.sat_core.specs.Paying.{Query, IsPaidLog}
use Rattle.frame_core.specs.declared.parts.Lemma.{Lemma}
use Rattle.frame_solver.specs.Guards.{on}
use Rattle.frame_solver.specs.Groups.{is_asked}

-- the literal is true
abbrev pub IsTrueIn : (ℕ → Bool) → Lit → Type 0
IsTrueIn a l = a l.var ≡ l.positive

-- group k is one of the first n and is asked for
abbrev pub IsOne : ℕ → List Lemma → ℕ → ℕ → ℕ → ℕ → Type 0
IsOne h lemmas i also n k = (k < n) × (is_asked h lemmas i also k ≡ true)

-- the literal is one of the query's own, or the activation literal of a group that is asked for
abbrev pub IsAskedLiteral : ℕ → ℕ → List Lemma → ℕ → ℕ → ℕ → List Lit → Lit → Type 0
IsAskedLiteral b h lemmas i also n extra l = Contains extra l ⊎ ((k : ℕ) × IsOne h lemmas i also n k × (l ≡ on (b + k)))

-- the assumptions of a query: its own literals, and the activation literals of those of the first n groups that are asked for
pub record AreAsked (b h : ℕ) (lemmas : List Lemma) (i also n : ℕ) (extra ls : List Lit) : Type 0 where
  pub own : All (Contains ls) extra
  pub each : (k : ℕ) → IsOne h lemmas i also n k → Contains ls (on (b + k))
  pub only : All (IsAskedLiteral b h lemmas i also n extra) ls

-- a makes the activation variables of those groups true that are asked for
abbrev pub AllOn : ℕ → ℕ → List Lemma → ℕ → ℕ → ℕ → (ℕ → Bool) → Type 0
AllOn b h lemmas i also n a = (k : ℕ) → IsOne h lemmas i also n k → a (b + k) ≡ true

-- the clauses and the core can't all be true
abbrev pub IsRefuted : List (List Lit) → List Lit → Type 0
IsRefuted given core = (a : ℕ → Bool) → All (ClauseTrue a) given → All (IsTrueIn a) core → ⊥

-- what the answer says of the groups and the query's own literals
abbrev pub AskSays : State → ℕ → ℕ → List Lemma → ℕ → ℕ → ℕ → List Lit → ℕ → Bool → Answer → Type 0
AskSays s b h lemmas i also n extra budget over (Sat model) =
    (length model ≡ s.vars) × All (ClauseTrue (assignment_of model)) s.given × AllOn b h lemmas i also n (assignment_of model)
    × All (IsTrueIn (assignment_of model)) extra
AskSays s b h lemmas i also n extra budget over (Unsat core) =
    All (IsAskedLiteral b h lemmas i also n extra) core.items × IsRefuted s.given core.items
AskSays s b h lemmas i also n extra budget over (Spent d budget') = (d ≡ budget) × (budget' ≡ budget) × (over ≡ true)

-- at most one query was asked of the solver, with these assumptions, and it was paid for
abbrev pub AsksOnce : ℕ → ℕ → List Lemma → ℕ → ℕ → ℕ → List Lit → State → State → List ℕ → List ℕ → Type 0
AsksOnce b h lemmas i also n extra old new before after =
    (log : List Query)
    × IsPaidLog old.learned new.learned before after log
    × (length log ≤ 1)
    × All (λ (q : Query). (q.own ≡ old.given) × AreAsked b h lemmas i also n extra q.assumptions) log
