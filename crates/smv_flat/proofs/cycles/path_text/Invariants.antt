-- The names of the slots so far.
use Rattle.std.proofs.Common.{◌≡◌, take, string_bytes}
use Rattle.smv_flat.specs.Assignments.{listed_names}
use Rattle.smv_flat.proofs.cycles.path_text.Given as goal

abbrev pub invariant-loop-n : goal.invariant-loop-n
invariant-loop-n l = string_bytes l.path ≡ listed_names l.typed.scope.program (take l.n-index l.round)
