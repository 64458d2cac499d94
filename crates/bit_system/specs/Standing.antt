-- A system over bits that stands for a program and a specification.
use Rattle.std.specs.Prelude.{◌≡◌, ℕ, ◌≤◌, ◌↔◌, Bool, not, List, [], ◌∷◌, map, IsTrue, All}
use Rattle.clause_core.specs.Assignments.{ClauseTrue}
use Rattle.clause_core.specs.Systems.{TransitionSystem, FirstBits, StepBits, BadBits, GoodBits, DefinedTrue, Gives}
use Rattle.clause_core.specs.declared.literal.Lit.{Lit}
use Rattle.smv_tree.specs.declared.tree.Program.{Program}
use Rattle.smv_value.specs.declared.value.Value.{Value}
use Rattle.smv_resolve.specs.Items.{ResolvedItem}
use Rattle.smv_meaning.specs.Runs.{is_first_state, is_step, IsFirstState, IsStep}
use Rattle.bit_states.specs.Layouts.{HasTypes, named_width, state_width}
use Rattle.bit_states.specs.Coding.{inputs_of, next_of, state_of}
use Rattle.bit_conditions.specs.Asked.{is_broken_in, is_just_in, justices_of}
use Rattle.bit_clauses.specs.Deciding.{Decides}
use Rattle.bit_clauses.specs.Gated.{DefinesAll}

-- that, of each of those formulas, by the bits of a state
abbrev pub just_values : Program → List ((ℕ → Bool) → Bool)
just_values p = map (λ (x : ResolvedItem). λ (b : ℕ → Bool). is_just_in p (state_of p b) x) (justices_of p)

-- The clauses of initial states, steps, bad and good states say what the program says of the states that the bits are,
-- alone and by unit propagation: from the bits of a state, and of a step from those of both states and of the inputs.
pub record StandsFor (p : Program) (spec : ResolvedItem) (sys : TransitionSystem) : Type 0 where
  pub types : HasTypes p
  pub bits : sys.state_bits ≡ state_width p
  pub room : named_width p ≤ sys.all_bits
  pub first : Decides (state_width p) sys.init (λ x. is_first_state p (state_of p x))
  pub step : Decides (named_width p) sys.step (λ x. is_step p (state_of p x) (inputs_of p x) (next_of p x))
  pub bad : Decides (state_width p) sys.bad (λ x. is_broken_in p spec (state_of p x))
  pub good : Decides (state_width p) sys.good (λ x. not (is_broken_in p spec (state_of p x)))
  pub defs : Gives (state_width p) sys.fair sys.defs
  pub fair : DefinesAll (state_width p) sys.defs sys.fair (just_values p)

-- each literal is true in the state that x is exactly where its formula is TRUE
unfoldable pub AreTrueWhere : Program → TransitionSystem → (ℕ → Bool) → List Lit → List ResolvedItem → Type 0
AreTrueWhere p sys x [] [] = Unit {0}
AreTrueWhere p sys x [] (e ∷ es) = ⊥
AreTrueWhere p sys x (l ∷ ls) [] = ⊥
AreTrueWhere p sys x (l ∷ ls) (e ∷ es) = (DefinedTrue sys x l ↔ IsTrue (is_just_in p (state_of p x) e)) × AreTrueWhere p sys x ls es

-- What follows of bit states: first, bad and good ones, and steps with some inputs.
pub record AgreesWith (p : Program) (spec : ResolvedItem) (sys : TransitionSystem) : Type 0 where
  pub first : (x : ℕ → Bool) → FirstBits sys x ↔ IsFirstState p (state_of p x)
  pub bad : (x : ℕ → Bool) → BadBits sys x ↔ IsTrue (is_broken_in p spec (state_of p x))
  pub good : (x : ℕ → Bool) → GoodBits sys x ↔ IsTrue (not (is_broken_in p spec (state_of p x)))
  pub step : (x y : ℕ → Bool) → StepBits sys x y ↔ ((u : List Value) × IsStep p (state_of p x) u (state_of p y))
  pub fair : (x : ℕ → Bool) → AreTrueWhere p sys x sys.fair (justices_of p)
  -- the inputs of a step
  pub inputs : (a : ℕ → Bool) → All (ClauseTrue a) sys.step → IsStep p (state_of p a) (inputs_of p a) (next_of p a)
