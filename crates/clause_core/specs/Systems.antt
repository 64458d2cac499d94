-- Transition systems over bits: initial states, steps, bad states (Bradley 2011, section 2).
use Rattle.std.specs.Prelude.{◌≡◌, ℕ, zero, suc, ◌+◌, ◌*◌, ◌<◌, ◌≤◌, ◌⊎◌, Bool, List, All}
use Rattle.clause_core.specs.declared.literal.Lit.{Lit}
use Rattle.clause_core.specs.Literals.{Within}
use Rattle.clause_core.specs.Assignments.{ClauseTrue, Agrees}

-- a system as data: clauses of an initial state, of a step, of a bad state and of one that isn't bad, fairness
-- literals, definitions
pub record TransitionSystem : Type 0 where
  pub state_bits : ℕ
  pub all_bits : ℕ
  pub init : List (List Lit)
  pub step : List (List Lit)
  pub bad : List (List Lit)
  pub good : List (List Lit)
  pub fair : List Lit
  pub defs : List (List Lit)

-- with the state bits of x, and some values of the other bits, these clauses are met
abbrev pub Meets : ℕ → (ℕ → Bool) → List (List Lit) → Type 0
Meets state_bits x cs = (a : ℕ → Bool) × Agrees state_bits a x × All (ClauseTrue a) cs

-- each state meets the good clauses or the bad ones, and none meets both
pub record Opposed (state_bits : ℕ) (good bad : List (List Lit)) : Type 0 where
  pub either : (x : ℕ → Bool) → Meets state_bits x good ⊎ Meets state_bits x bad
  pub never_both : (x : ℕ → Bool) → Meets state_bits x good → Meets state_bits x bad → ⊥

-- both give each variable of these literals the same value
abbrev pub SameOn : (ℕ → Bool) → (ℕ → Bool) → List Lit → Type 0
SameOn a b lits = All (λ l. a l.var ≡ b l.var) lits

-- the definitions give the variables of `lits`, and their own, from the state bits in one way for each state
pub record Gives (state_bits : ℕ) (lits : List Lit) (defs : List (List Lit)) : Type 0 where
  pub extends : (x : ℕ → Bool) → (a : ℕ → Bool) × Agrees state_bits a x × All (ClauseTrue a) defs
  pub one_way : (a b : ℕ → Bool) → Agrees state_bits a b → All (ClauseTrue a) defs → All (ClauseTrue b) defs →
      SameOn a b lits × All (SameOn a b) defs

-- what the type of systems keeps
pub record IsSystem (sys : TransitionSystem) : Type 0 where
  pub room : 2 * sys.state_bits ≤ sys.all_bits
  pub init_in : All (Within sys.all_bits) sys.init
  pub step_in : All (Within sys.all_bits) sys.step
  pub bad_in : All (Within sys.all_bits) sys.bad
  pub good_in : All (Within sys.all_bits) sys.good
  pub opposed : Opposed sys.state_bits sys.good sys.bad
  pub fair_in : Within sys.all_bits sys.fair
  pub defs_in : All (Within sys.all_bits) sys.defs
  pub gives : Gives sys.state_bits sys.fair sys.defs

-- x is an initial state: with some values of the other bits it meets all init clauses
abbrev pub FirstBits : TransitionSystem → (ℕ → Bool) → Type 0
FirstBits sys x = Meets sys.state_bits x sys.init

-- the bits of the next state are those of y
abbrev pub NextIs : ℕ → (ℕ → Bool) → (ℕ → Bool) → Type 0
NextIs state_bits a y = (b : ℕ) → b < state_bits → a (state_bits + b) ≡ y b

-- a step leads from x to y: with some values of the other bits they meet all step clauses
abbrev pub StepBits : TransitionSystem → (ℕ → Bool) → (ℕ → Bool) → Type 0
StepBits sys x y =
    (a : ℕ → Bool) × Agrees sys.state_bits a x × NextIs sys.state_bits a y × All (ClauseTrue a) sys.step

-- x is a bad state: with some values of the other bits it meets all bad clauses
abbrev pub BadBits : TransitionSystem → (ℕ → Bool) → Type 0
BadBits sys x = Meets sys.state_bits x sys.bad

-- x is a good state, one that is not bad: with some values of the other bits it meets all good clauses
abbrev pub GoodBits : TransitionSystem → (ℕ → Bool) → Type 0
GoodBits sys x = Meets sys.state_bits x sys.good

-- the literal is true of x in the extension of x that meets the definitions
abbrev pub DefinedTrue : TransitionSystem → (ℕ → Bool) → Lit → Type 0
DefinedTrue sys x l =
    (a : ℕ → Bool) × Agrees sys.state_bits a x × All (ClauseTrue a) sys.defs × (a l.var ≡ l.positive)

-- x is reached from an initial state in at most j steps
abbrev pub ReachedWithin : TransitionSystem → ℕ → (ℕ → Bool) → Type 0
ReachedWithin sys zero x = FirstBits sys x
ReachedWithin sys (suc j) x = ReachedWithin sys j x ⊎ ((y : ℕ → Bool) × ReachedWithin sys j y × StepBits sys y x)
