-- What the clauses of an unrolling say, wherever their variables lie.
use Rattle.std.specs.Prelude.{◌≡◌, ℕ, ◌+◌, ◌<◌, ◌⊎◌, Bool, true, false, length, All}
use Rattle.clause_core.specs.declared.literal.Lit.{Lit}
use Rattle.clause_core.specs.Literals.{at}
use Rattle.clause_core.specs.Assignments.{Agrees, ClauseTrue}
use Rattle.clause_core.specs.Systems.{TransitionSystem, NextIs}
use Rattle.lasso_search.specs.declared.plan.Plan.{Plan}
use Rattle.lasso_search.specs.declared.plan.Turn.{Turn}
use Rattle.lasso_search.specs.Unrolling.{place, begun_literal, ends, seen, unrolled, closing}

-- what the variables tell: the values of the initial state, of each state and of its step, and of the state at which
-- the loop begins; whether it begins before a time, and ends there; and whether a set was met in it before a time
pub record Course : Type 0 where
  pub first : ℕ → Bool
  pub state : ℕ → ℕ → Bool
  pub step : ℕ → ℕ → Bool
  pub start : ℕ → Bool
  pub begun : ℕ → Bool
  pub ends : ℕ → Bool
  pub seen : ℕ → ℕ → Bool

-- a run of so many steps, in which a loop may begin and end
pub record IsCourse (m : TransitionSystem) (steps : ℕ) (c : Course) : Type 0 where
  pub init : All (ClauseTrue c.first) m.init
  pub first : Agrees m.state_bits c.first (c.state 0)
  pub step : (i : ℕ) → i < steps → All (ClauseTrue (c.step i)) m.step
  pub from : (i : ℕ) → i < steps → Agrees m.state_bits (c.step i) (c.state i)
  pub to : (i : ℕ) → i < steps → NextIs m.state_bits (c.step i) (c.state (i + 1))
  pub defined : (i : ℕ) → i < steps → All (ClauseTrue (c.state i)) m.defs
  pub not_begun : c.begun 0 ≡ false
  pub begins : (i : ℕ) → i < steps → c.begun i ≡ false → c.begun (i + 1) ≡ true → Agrees m.state_bits c.start (c.state i)
  pub ends : (i : ℕ) → i < steps → c.ends (i + 1) ≡ true → Agrees m.state_bits c.start (c.state (i + 1))
  pub unseen : (j : ℕ) → j < length m.fair → c.seen j 0 ≡ false
  pub sees : (i j : ℕ) → i < steps → j < length m.fair → c.seen j (i + 1) ≡ true →
      (c.seen j i ≡ true) ⊎ ((c.begun (i + 1) ≡ true) × (c.state i (at m.fair j).var ≡ (at m.fair j).positive))

-- the loop begins before time n and ends there, and each set was met in it
pub record Closes (m : TransitionSystem) (n : ℕ) (c : Course) : Type 0 where
  pub begun : c.begun n ≡ true
  pub ends : c.ends n ≡ true
  pub seen : (j : ℕ) → j < length m.fair → c.seen j n ≡ true

-- what an assignment tells
abbrev pub course_of : Plan → (ℕ → Bool) → Course
course_of p a = record {
  first = λ v. a (place p Turn.First v);
  state = λ i v. a (place p (Turn.State i) v);
  step = λ i v. a (place p (Turn.Step i) v);
  start = a;
  begun = λ i. a (begun_literal p i).var;
  ends = λ i. a (ends p i).var;
  seen = λ j i. a (seen p j i).var;
}

-- some values meet the clauses of so many steps, and close the loop after n
abbrev pub CanClose : TransitionSystem → ℕ → ℕ → Type 0
CanClose m steps n =
    (a : ℕ → Bool) × All (ClauseTrue a) (unrolled m steps) × All (λ (l : Lit). a l.var ≡ l.positive) (closing m n)
