-- Two systems of three bits, of which the tests of frames and books speak.
use Rattle.std.specs.Prelude.{ℕ, Bool, true, false, List, [], ◌∷◌, Some, None, map}
use Rattle.clause_core.specs.declared.literal.Lit.{Lit}
use Rattle.clause_core.specs.Literals.{negate, units}
use Rattle.clause_core.specs.Systems.{TransitionSystem}
use Rattle.frame_core.specs.declared.parts.Obligation.{Obligation}
use Rattle.frame_core.specs.declared.parts.Parent.{Parent}
use Rattle.frame_core.specs.FrameLaw.{FrameState}

abbrev pub yes : ℕ → Lit
yes v = record { var = v; positive = true }

abbrev pub no : ℕ → Lit
no v = record { var = v; positive = false }

-- the system of three bits with these clauses, whose bad states are those in which these literals are true
abbrev pub three_bits : List (List Lit) → List (List Lit) → List Lit → TransitionSystem
three_bits init step bad = record {
  state_bits = 3;
  all_bits = 6;
  init = init;
  step = step;
  bad = units bad;
  good = map negate bad ∷ [];
  fair = [];
  defs = [];
}

-- bit 0 is false at first, and once it is false it stays so; with these bad states
abbrev pub latch_over : List Lit → TransitionSystem
latch_over bad = three_bits ((no 0 ∷ []) ∷ []) ((no 3 ∷ yes 0 ∷ []) ∷ []) bad

-- all bits true is bad
unfoldable pub latch : TransitionSystem
latch = latch_over (yes 0 ∷ yes 1 ∷ yes 2 ∷ [])

-- bits 1 and 2 are false at first; a step gives bit 1 what bit 0 was, and bit 2 what bit 1 was; all bits true is bad
unfoldable pub register : TransitionSystem
register = three_bits ((no 1 ∷ []) ∷ (no 2 ∷ []) ∷ [])
    ((no 4 ∷ yes 0 ∷ []) ∷ (yes 4 ∷ no 0 ∷ []) ∷ (no 5 ∷ yes 1 ∷ []) ∷ (yes 5 ∷ no 1 ∷ []) ∷ []) (yes 0 ∷ yes 1 ∷ yes 2 ∷ [])

-- the clauses of which the tests speak: this bit is false; bit 0 or bit 1 is
abbrev pub alone : ℕ → List Lit
alone v = no v ∷ []

unfoldable pub either_low : List Lit
either_low = no 0 ∷ no 1 ∷ []

-- lemma 0, which says that this bit is false
abbrev pub alone_parent : ℕ → Parent
alone_parent v = record { number = 0; clause = alone v }

-- values of all bits: of the state with all bits true, of a step to it, and of a step from an initial state to that
unfoldable pub last_values : List Bool
last_values = true ∷ true ∷ true ∷ false ∷ false ∷ false ∷ []

unfoldable pub middle_values : List Bool
middle_values = true ∷ true ∷ false ∷ true ∷ true ∷ true ∷ []

unfoldable pub first_values : List Bool
first_values = true ∷ false ∷ false ∷ true ∷ true ∷ false ∷ []

abbrev pub last : Obligation
last = record { system = 0; values = last_values; parent = None; first = false }

abbrev pub middle : Obligation
middle = record { system = 0; values = middle_values; parent = Some 0; first = false }

-- the frames of the register with these obligations and no more
abbrev pub register_frames : List Obligation → FrameState
register_frames obligations = record { systems = register ∷ []; lemmas = []; tops = 0 ∷ []; obligations = obligations }
