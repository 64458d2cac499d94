-- What a certificate says.
use Rattle.std.specs.Prelude.{ℕ, ◌+◌, ◌<◌, ⊤, Bool, List, [], ◌∷◌, ◌++◌, length, map, All, Option, None, Some, IfSome, IsSomeAnd, slice_index_or}
use Rattle.clause_core.specs.declared.literal.Lit.{Lit}
use Rattle.clause_core.specs.Literals.{negate, Within}
use Rattle.clause_core.specs.Assignments.{ClauseTrue}
use Rattle.clause_core.specs.Derivations.{Derives}
use Rattle.clause_core.specs.Systems.{TransitionSystem, FirstBits, StepBits, BadBits}
use Rattle.hinted_log.specs.Hints.{HintedLog, IsHinted, Refutes}
use Rattle.cert_core.specs.declared.form.Form.{Form}
use Rattle.cert_core.specs.declared.form.Form.TheVariants.{Plain, Hinted}
use Rattle.cert_core.specs.declared.form.Part.TheVariants.{First, Kept}
use Rattle.cert_core.specs.Blocks.{Block, part_of}

-- the same literal of the next state
abbrev pub next_of : ℕ → Lit → Lit
next_of state_bits l = record { var = state_bits + l.var; positive = l.positive }

-- the literals of the negated clause
abbrev pub negated : List Lit → List Lit
negated c = map negate c

-- the literals of the negated clause at the next state
abbrev pub negated_next : ℕ → List Lit → List Lit
negated_next state_bits c = map negate (map (next_of state_bits) c)

-- a clause of one literal for each of these
abbrev pub unit_clauses : List Lit → List (List Lit)
unit_clauses lits = map (λ l. l ∷ []) lits

-- the steps that are given to each kept part
abbrev pub shared_steps : Form → Option HintedLog → List (List Lit)
shared_steps Plain shared = []
shared_steps Hinted None = []
shared_steps Hinted (Some log) = log.steps

-- what the shared part follows from
abbrev pub shared_clauses : TransitionSystem → List (List Lit) → List (List Lit)
shared_clauses sys cs = cs ++ sys.step

-- what the part `first c` follows from
abbrev pub first_clauses : TransitionSystem → List Lit → List (List Lit)
first_clauses sys c = sys.init ++ unit_clauses (negated c)

-- what the part `kept c` follows from
abbrev pub kept_clauses : TransitionSystem → List (List Lit) → List (List Lit) → List Lit → List (List Lit)
kept_clauses sys cs shared c = cs ++ sys.step ++ shared ++ unit_clauses (negated_next sys.state_bits c)

-- what the part `safe` follows from
abbrev pub safe_clauses : TransitionSystem → List (List Lit) → List (List Lit)
safe_clauses sys cs = cs ++ sys.bad

-- the steps derive the empty clause from the clauses
abbrev pub StepsShow : Form → ℕ → List (List Lit) → HintedLog → Type 0
StepsShow Plain vars cs log = Derives vars cs log.steps
StepsShow Hinted vars cs log = Refutes vars cs log

-- the part is there, and its steps derive the empty clause from the clauses
abbrev pub Shows : Form → ℕ → List (List Lit) → Option HintedLog → Type 0
Shows form vars cs part = IsSomeAnd part (StepsShow form vars cs)

-- the shared steps follow: where there is a shared part, it has steps, and each follows by its hints
abbrev pub SharedFollow : Form → ℕ → List (List Lit) → Option HintedLog → Type 0
SharedFollow Plain vars cs shared = ⊤
SharedFollow Hinted vars cs shared = IfSome shared (λ log. (0 < length log.steps) × IsHinted vars cs log)

-- each part is there and shows what it is to show
pub record Certifies (sys : TransitionSystem) (cert : Block) : Type 0 where
  pub within : All (Within sys.state_bits) cert.clauses
  pub shared : SharedFollow cert.form sys.all_bits (shared_clauses sys cert.clauses) cert.shared
  pub first : (k : ℕ) → k < length cert.clauses →
      Shows cert.form sys.all_bits (first_clauses sys (slice_index_or cert.clauses k [])) (part_of cert (First k))
  pub kept : (k : ℕ) → k < length cert.clauses →
      Shows cert.form sys.all_bits (kept_clauses sys cert.clauses (shared_steps cert.form cert.shared) (slice_index_or cert.clauses k []))
      (part_of cert (Kept k))
  pub safe : Shows cert.form sys.all_bits (safe_clauses sys cert.clauses) cert.safe

-- the clauses hold in each initial state, are kept by each step, and exclude bad states
pub record IsInvariant (sys : TransitionSystem) (cs : List (List Lit)) : Type 0 where
  pub initial : (x : ℕ → Bool) → FirstBits sys x → All (ClauseTrue x) cs
  pub kept : (x y : ℕ → Bool) → All (ClauseTrue x) cs → StepBits sys x y → All (ClauseTrue y) cs
  pub safe : (x : ℕ → Bool) → All (ClauseTrue x) cs → BadBits sys x → ⊥
