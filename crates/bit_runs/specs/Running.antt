-- The run or the lasso of a program that rows of bits are.
use Rattle.std.specs.Prelude.{◌-◌, Bool, List, length, map, take}
use Rattle.clause_core.specs.Assignments.{assignment_of}
use Rattle.smv_tree.specs.declared.tree.Program.{Program}
use Rattle.smv_value.specs.declared.value.Value.{Value}
use Rattle.smv_meaning.specs.Lassos.{Lasso}
use Rattle.bit_states.specs.Coding.{inputs_of, state_of}
use Rattle.bit_runs.specs.declared.lassos.Lasso.{Lasso as ToldLasso}

-- the states that the rows are, and the inputs of the steps between them
abbrev pub states_in : Program → List (List Bool) → List (List Value)
states_in p rows = map (λ (r : List Bool). state_of p (assignment_of r)) rows

abbrev pub inputs_in : Program → List (List Bool) → List (List Value)
inputs_in p rows = map (λ (r : List Bool). inputs_of p (assignment_of r)) (take (length rows - 1) rows)

-- the lasso that is told
abbrev pub lasso_at : ToldLasso → Lasso
lasso_at w = record { states = w.states; inputs = w.inputs; start = w.start }
