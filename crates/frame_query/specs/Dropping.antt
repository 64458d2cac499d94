-- Literals that are dropped from a proved clause, and why others stay (Bradley 2011, section 4).
use Rattle.std.specs.Prelude.{◌≡◌, ◌⊎◌, ℕ, ◌-◌, ◌≤◌, Bool, true, List, length, All, Contains}
use Rattle.clause_core.specs.declared.literal.Lit.{Lit}
use Rattle.clause_core.specs.Systems.{TransitionSystem}
use Rattle.frame_core.specs.declared.parts.Lemma.{Lemma}
use Rattle.frame_core.specs.Facts.{IsPart, ProvedClause}
use Rattle.frame_core.specs.FrameLaw.{AllStand}
use Rattle.frame_query.specs.declared.outcomes.Generalised.{Generalised}
use Rattle.frame_query.specs.declared.outcomes.Generalised.TheVariants as generalised
use Rattle.frame_solver.specs.Firsts.{IsFirstOut}
use Rattle.frame_solver.specs.Stepping.{IsStepOut}
use Rattle.frame_solver.specs.Paying.{Firsts, Steps, AskedQuery, Pays, AllDiffer}

-- an initial state does not meet the clause, or a step leaves it from a state of the frame below that meets it
abbrev pub IsBroken : TransitionSystem → List Lemma → ℕ → List Lit → Type 0
IsBroken sys lemmas level d = ((v : List Bool) × IsFirstOut sys d v) ⊎ ((v : List Bool) × IsStepOut sys lemmas level d v)

-- this part of the given literals lacks l, holds all others that are kept, and is broken
pub record IsWitness (sys : TransitionSystem) (lemmas : List Lemma) (level : ℕ) (given kept : List Lit) (l : Lit) (d : List Lit) : Type 0 where
  pub part : IsPart d given
  pub lacks : Contains d l → ⊥
  pub holds : (m : Lit) → Contains kept m → (m ≡ l → ⊥) → Contains d m
  pub broken : IsBroken sys lemmas level d

-- each of these literals has a witness
abbrev pub AllNeeded : TransitionSystem → List Lemma → ℕ → List Lit → List Lit → List Lit → Type 0
AllNeeded sys lemmas level given kept some = All (λ l. (d : List Lit) × IsWitness sys lemmas level given kept l d) some

-- the query asks of this clause
abbrev pub AsksOf : ℕ → List Lit → AskedQuery → Type 0
AsksOf level d a = (a.question ≡ Firsts d) ⊎ (a.question ≡ Steps level d)

-- a part of the clause that lacks one of its literals
abbrev pub IsProperPart : List Lit → List Lit → Type 0
IsProperPart given d = IsPart d given × ((l : Lit) × Contains given l × (Contains d l → ⊥))

-- the query asks of one of these clauses
abbrev pub AsksOfSome : ℕ → List (List Lit) → AskedQuery → Type 0
AsksOfSome level parts a = (d : List Lit) × Contains parts d × AsksOf level d a

-- queries of proper parts of the clause, of at most as many as it has literals, no two equal, paid for
abbrev pub PaysParts : List TransitionSystem → List Lemma → List (List Lit) → List (List Lit) → List ℕ → List ℕ → ℕ → List Lit → Type 0
PaysParts systems lemmas old new before after level given =
    (log : List AskedQuery)
    × (parts : List (List Lit))
    × Pays systems lemmas old new before after log
    × AllDiffer log
    × (length parts ≤ length given)
    × All (IsProperPart given) parts
    × All (AsksOfSome level parts) log

-- a part of the literals, each of which has a witness; its parents stand where those of the given proof do
pub record IsSmaller (sys : TransitionSystem) (lemmas : List Lemma) (p r : ProvedClause) : Type 0 where
  pub system : r.system ≡ p.system
  pub level : r.level ≡ p.level
  pub part : IsPart r.clause p.clause
  pub needed : AllNeeded sys lemmas p.level p.clause r.clause r.clause
  pub stands : AllStand lemmas (p.level - 1) p.parents → AllStand lemmas (p.level - 1) r.parents

-- what became of a proof
abbrev pub Generalises : TransitionSystem → List Lemma → ProvedClause → ℕ → Bool → Generalised → Type 0
Generalises sys lemmas p budget over (generalised.Smaller r) = IsSmaller sys lemmas p r
Generalises sys lemmas p budget over (generalised.Spent given d b) = (given ≡ p) × (d ≡ budget) × (b ≡ budget) × (over ≡ true)
Generalises sys lemmas p budget over (generalised.NoMemory given) = given ≡ p
