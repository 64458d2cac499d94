-- The inputs so far.
use Rattle.std.proofs.Common.{◌≡◌, Bool, List, map, take}
use Rattle.clause_core.specs.Assignments.{assignment_of}
use Rattle.bit_states.specs.Coding.{decoded}
use Rattle.bit_runs.proofs.runs.decoded_inputs.Given as goal

abbrev pub invariant-loop-k : goal.invariant-loop-k
invariant-loop-k l = l.inputs.items ≡ map (λ (x : List Bool). decoded l.built.layout.input_types l.built.layout.inputs (assignment_of x)) (take l.k l.run)
