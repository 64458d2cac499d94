-- What follows of the bits of states with inputs, and of a system that stands for a formula.
use Rattle.std.specs.Prelude.{◌≡◌, ℕ, ◌↔◌, Bool, true, List, length, map, All, Contains, IsTrue}
use Rattle.clause_core.specs.Assignments.{Agrees, ClauseTrue}
use Rattle.clause_core.specs.Systems.{FirstBits, StepBits}
use Rattle.ltl_monitor.specs.States.{Extends, value}
use Rattle.smv_tree.specs.declared.tree.Program.{Program}
use Rattle.smv_value.specs.declared.value.Value.{Value}
use Rattle.smv_slots.specs.Slots.{slots_of}
use Rattle.smv_resolve.specs.Resolved.{Resolved}
use Rattle.smv_meaning.specs.Runs.{are_inputs, is_state, IsFirstState, IsStep}
use Rattle.smv_meaning.specs.Values.{outcome}
use Rattle.bit_conditions.specs.Asked.{is_just_in, justices_of}
use Rattle.bit_formula.specs.Coding.{input_count, inputs_in, joint_code, joint_width, next_in, read_inputs, state_in}
use Rattle.bit_formula.specs.Reading.{AgreeOn, reads_of}
use Rattle.bit_formula.specs.Standing.{FormulaSystem, is_true_at}

-- A state with inputs is what its code decodes to, as far as the inputs are read. Only the bits of a state with these
-- inputs tell them. Where inputs have their types, so have those that agree with them where they are read, with bits
-- that are false elsewhere.
pub record IsJointCoding (p : Program) (reads : List ℕ) : Type 0 where
  pub state : (s u : List Value) → is_state p s ≡ true → state_in p reads (joint_code p reads s u) ≡ s
  pub read : (s u : List Value) → is_state p s ≡ true → are_inputs p u ≡ true → AgreeOn reads (read_inputs p reads (joint_code p reads s u)) u
  pub own_bits : (x y : ℕ → Bool) → Agrees (joint_width p reads) x y → (state_in p reads x ≡ state_in p reads y) × (read_inputs p reads x ≡ read_inputs p reads y)
  pub typed : (x : ℕ → Bool) (u : List Value) → are_inputs p u ≡ true → AgreeOn reads (read_inputs p reads x) u → are_inputs p (read_inputs p reads x) ≡ true

-- inputs that agree where some expressions read them give each of these the same outcome
abbrev pub AreAllRead : Program → List Resolved → Type 0
AreAllRead p parts =
    (u v : List Value) → length u ≡ input_count p → length v ≡ input_count p → AgreeOn (reads_of p parts) u v →
    (r : Resolved) → Contains parts r → (s t : List Value) → outcome (slots_of p) s u t r ≡ outcome (slots_of p) s v t r

-- What follows of bit states and of steps between them. A step has the inputs that the state it leads from has, where
-- they are read. In an initial state, and in that to which a step leads, inputs that are read have their types.
pub record FormulaAgrees (p : Program) (r : FormulaSystem) (parts : List Resolved) : Type 0 where
  pub first : (x : ℕ → Bool) → FirstBits r.system x ↔ (IsFirstState p (state_in p r.reads x) × IsTrue (are_inputs p (read_inputs p r.reads x)))
  pub step : (x y : ℕ → Bool) → StepBits r.system x y
      ↔ ((u : List Value) × IsStep p (state_in p r.reads x) u (state_in p r.reads y) × AgreeOn r.reads u (read_inputs p r.reads x)
      × IsTrue (are_inputs p (read_inputs p r.reads y)))
  -- the states and the inputs of a step
  pub inputs : (a : ℕ → Bool) → All (ClauseTrue a) r.system.step → IsStep p (state_in p r.reads a) (inputs_in p r.reads a) (next_in p r.reads a)
  pub read : (a : ℕ → Bool) → AgreeOn r.reads (inputs_in p r.reads a) (read_inputs p r.reads a)
  -- with the values that definitions give, what is true of JUSTICE and of atoms
  pub fair : (x a : ℕ → Bool) → Extends r.system x a → map (value a) r.system.fair ≡ map (is_just_in p (state_in p r.reads x)) (justices_of p)
  pub atoms : (x a : ℕ → Bool) → Extends r.system x a → map (value a) r.atoms ≡ map (λ (e : Resolved). is_true_at p r.reads e x) parts
  -- each state has such values
  pub extends : (x : ℕ → Bool) → (a : ℕ → Bool) × Extends r.system x a
