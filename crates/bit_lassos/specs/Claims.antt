-- What it means for an LTLSPEC to be violated or not, and the lasso of a program that rows of bits are.
use Rattle.std.specs.Prelude.{ℕ, ◌+◌, ◌-◌, ◌*◌, ◌≤◌, Bool, List, length, map}
use Rattle.clause_core.specs.Assignments.{assignment_of}
use Rattle.smv_tree.specs.declared.tree.Program.{Program}
use Rattle.smv_resolve.specs.Items.{ResolvedItem}
use Rattle.smv_meaning.specs.Lassos.{Lasso, Violates}
use Rattle.bit_states.specs.Coding.{decoded}
use Rattle.bit_formula.specs.Standing.{FormulaSystem}

-- no fair lasso violates it
abbrev pub IsUnviolated : Program → ResolvedItem → Type 0
IsUnviolated p spec = (w : Lasso) → Violates p spec w → ⊥

-- none does whose states, with h passes more of its loop, are at most so many
abbrev pub IsUnviolatedWithin : Program → ResolvedItem → ℕ → ℕ → Type 0
IsUnviolatedWithin p spec h bound =
    (w : Lasso) → length w.states + h * (length w.states - w.start) ≤ bound → Violates p spec w → ⊥

-- some lasso violates it
abbrev pub IsViolated : Program → ResolvedItem → Type 0
IsViolated p spec = (w : Lasso) × Violates p spec w

-- the states and the inputs of the steps that rows of bits are
abbrev pub lasso_in : FormulaSystem → List (List Bool) → ℕ → Lasso
lasso_in r rows start = record {
  states = map (λ (row : List Bool). decoded r.layout.state_types r.layout.state (assignment_of row)) rows;
  inputs = map (λ (row : List Bool). decoded r.layout.input_types r.layout.inputs (assignment_of row)) rows;
  start = start;
}
