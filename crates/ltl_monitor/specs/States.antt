-- A monitored system over bits: its states, steps and sets, by those of the system and the monitor's rules.
use Rattle.std.specs.Prelude.{◌≡◌, ◌↔◌, ℕ, ◌+◌, ◌-◌, ◌*◌, ◌<◌, Bool, false, List, [], ◌∷◌, ◌++◌, map, length, All, slice_index_or, nat_lt, if◌then◌else◌}
use Rattle.ltl_meaning.specs.Ltl.{Ltl}
use Rattle.clause_core.specs.declared.literal.Lit.{Lit}
use Rattle.clause_core.specs.Assignments.{ClauseTrue, Agrees, assignment_of}
use Rattle.clause_core.specs.Systems.{TransitionSystem, NextIs, FirstBits, StepBits, BadBits, GoodBits}
use Rattle.ltl_monitor.specs.Monitor.{Side, same, nodes, truth, rows, starts, all_sets}

-- a literal's value
abbrev pub value : (ℕ → Bool) → Lit → Bool
value a l = same l.positive (a l.var)

-- each atom of a formula is below m
abbrev pub AtomsBelow : ℕ → Ltl → Type 0
AtomsBelow m (Ltl.Constant b) = Unit {0}
AtomsBelow m (Ltl.Atom a) = a < m
AtomsBelow m (Ltl.Unary o f) = AtomsBelow m f
AtomsBelow m (Ltl.Binary o f g) = AtomsBelow m f × AtomsBelow m g

-- a has the values of state x: those of its bits, and those that the definitions give from them
abbrev pub Extends : TransitionSystem → (ℕ → Bool) → (ℕ → Bool) → Type 0
Extends sys x a = Agrees sys.state_bits a x × All (ClauseTrue a) sys.defs

-- what a state shows: its literals' truth, and its node bits, which begin at a variable
abbrev pub side_of : List Lit → ℕ → (ℕ → Bool) → (ℕ → Bool) → Side
side_of lits first a x = record { atom = λ k. slice_index_or (map (value a) lits) k false; bit = λ n. x (first + n) }

-- the atoms' literals come first, and JUSTICE after them
abbrev pub shown : TransitionSystem → List Lit → (ℕ → Bool) → (ℕ → Bool) → Side
shown sys atoms a x = side_of (atoms ++ sys.fair) sys.state_bits a x

-- a number for each literal, from n on
abbrev pub numbers : ℕ → List Lit → List ℕ
numbers n [] = []
numbers n (l ∷ ls) = n ∷ numbers (n + 1) ls

-- the numbers that JUSTICE has among the atoms
abbrev pub justice_of : TransitionSystem → List Lit → List ℕ
justice_of sys atoms = numbers (length atoms) sys.fair

-- where a variable of the system lies among those of its monitor: the bits of temporal operators come after the state
-- bits, and after those of the next state
abbrev pub own_var : TransitionSystem → TransitionSystem → ℕ → ℕ
own_var sys m v =
    if nat_lt v sys.state_bits then v
    else
    (if nat_lt v (sys.state_bits + sys.state_bits) then v + (m.state_bits - sys.state_bits)
    else v + 2 * (m.state_bits - sys.state_bits))

-- the values of the system's variables among those of its monitor
abbrev pub own_values : TransitionSystem → TransitionSystem → (ℕ → Bool) → ℕ → Bool
own_values sys m a v = a (own_var sys m v)

-- m is the system with a formula's monitor beside it: a state has one bit more for each temporal operator; an initial
-- state is one of the system whose node bits meet the rules of an initial state and make the formula false; a step is
-- one of the system whose node bits meet the rules of a step; the fairness literals tell the sets; bad and good are as
-- before; values of all bits that meet the step clauses have among them values of the system's bits that meet its own
pub record IsMonitor (sys : TransitionSystem) (f : Ltl) (atoms : List Lit) (m : TransitionSystem) : Type 0 where
  pub bits : m.state_bits ≡ sys.state_bits + nodes f
  pub first : (x a : ℕ → Bool) → Extends sys x a →
      FirstBits m x ↔ (FirstBits sys x × starts f 0 (shown sys atoms a x) × (truth f 0 (shown sys atoms a x) ≡ false))
  pub step : (x y a b : ℕ → Bool) → Extends sys x a → Extends sys y b →
      StepBits m x y ↔ (StepBits sys x y × rows f 0 (shown sys atoms a x) (shown sys atoms b y))
  pub sets : (x a e : ℕ → Bool) → Extends sys x a → Extends m x e →
      map (value e) m.fair ≡ map (λ z. z (shown sys atoms a x)) (all_sets (justice_of sys atoms) f)
  pub bad : (x : ℕ → Bool) → BadBits m x ↔ BadBits sys x
  pub good : (x : ℕ → Bool) → GoodBits m x ↔ GoodBits sys x
  pub own_in : (v : ℕ) → v < sys.all_bits → own_var sys m v < m.all_bits
  pub own_step : (a : ℕ → Bool) → All (ClauseTrue a) m.step → All (ClauseTrue (own_values sys m a)) sys.step

-- the values of the system's bits are those of its monitor's: of the same state and the same next one, and where
-- these meet the monitor's step clauses, those meet the system's
pub record IsOwnRow (sys m : TransitionSystem) (row own : List Bool) : Type 0 where
  pub full : length own ≡ sys.all_bits
  pub state : Agrees sys.state_bits (assignment_of own) (assignment_of row)
  pub next : NextIs sys.state_bits (assignment_of own) (λ b. assignment_of row (m.state_bits + b))
  pub step : All (ClauseTrue (assignment_of row)) m.step → All (ClauseTrue (assignment_of own)) sys.step
