-- The states so far.
use Rattle.std.proofs.Common.{◌≡◌, Bool, List, map, take}
use Rattle.clause_core.specs.Assignments.{assignment_of}
use Rattle.bit_states.specs.Coding.{decoded}
use Rattle.bit_runs.proofs.runs.decoded_states.Given as goal

abbrev pub invariant-loop-k : goal.invariant-loop-k
invariant-loop-k l = l.states.items ≡ map (λ (x : List Bool). decoded l.built.layout.state_types l.built.layout.state (assignment_of x)) (take l.k l.run)
