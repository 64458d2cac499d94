-- The systems of a program: one for each of its specifications.
use Rattle.std.specs.Prelude.{◌≡◌, ℕ, ◌<◌, Bool, true, false, List, [], length, Some, slice_get, slice_index_or}
use Rattle.clause_core.specs.Systems.{BadBits, TransitionSystem}
use Rattle.smv_tree.specs.declared.tree.Program.{Program}
use Rattle.smv_resolve.specs.Items.{ResolvedItem}
use Rattle.smv_meaning.specs.Runs.{specifications_of}
use Rattle.bit_states.specs.Layouts.{BitLayout, HasTypes, layout_of}
use Rattle.bit_conditions.specs.Asked.{is_invariant}
use Rattle.bit_system.specs.Standing.{StandsFor}

-- the systems of a program as data: where the bits of a step stand, and a system for each specification
pub record BitProgram : Type 0 where
  pub layout : BitLayout
  pub systems : List TransitionSystem

-- for numbers past the last system
abbrev pub no_system : TransitionSystem
no_system = record { state_bits = 0; all_bits = 0; init = []; step = []; bad = []; good = []; fair = []; defs = [] }

abbrev pub system_of : BitProgram → ℕ → TransitionSystem
system_of b j = slice_index_or b.systems j no_system

-- the systems are the same but for their bad and good clauses
pub record IsLike (a b : TransitionSystem) : Type 0 where
  pub state_bits : a.state_bits ≡ b.state_bits
  pub all_bits : a.all_bits ≡ b.all_bits
  pub init : a.init ≡ b.init
  pub step : a.step ≡ b.step
  pub fair : a.fair ≡ b.fair
  pub defs : a.defs ≡ b.defs

-- The systems are those of the program: one for each specification, in their order. That of an invariant stands for the
-- program and the specification. In that of an LTLSPEC no state is bad: it is built without asking what the formula's
-- value is. All are the same but for their bad and good clauses.
pub record IsBuilt (p : Program) (b : BitProgram) : Type 0 where
  pub types : HasTypes p
  pub layout : b.layout ≡ layout_of p
  pub each_one : length b.systems ≡ length (specifications_of p)
  pub stands : (j : ℕ) (spec : ResolvedItem) → slice_get (specifications_of p) j ≡ Some spec → is_invariant spec.kind ≡ true → StandsFor p spec (system_of b j)
  pub none_bad : (j : ℕ) (spec : ResolvedItem) → slice_get (specifications_of p) j ≡ Some spec → is_invariant spec.kind ≡ false → (x : ℕ → Bool) → BadBits (system_of b j) x → ⊥
  pub alike : (j : ℕ) → j < length b.systems → IsLike (system_of b 0) (system_of b j)
