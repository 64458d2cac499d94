-- The rows so far.
use Rattle.std.proofs.Common.{◌≡◌, Bool, List, map, take}
use Rattle.clause_core.specs.Assignments.{assignment_of}
use Rattle.bit_states.specs.Coding.{decoded}
use Rattle.bit_runs.proofs.lassos.decoded_rows.Given as goal

abbrev pub invariant-loop-k : goal.invariant-loop-k
invariant-loop-k l = l.rows.items ≡ map (λ (row : List Bool). decoded l.types l.places (assignment_of row)) (take l.k l.lasso.rows)
