-- So many types are added.
use Rattle.std.proofs.Common.{◌≡◌, ◌++◌, replicate}
use Rattle.smv_slots.proofs.types.push_types.Given as goal

abbrev pub invariant-loop-k : goal.invariant-loop-k
invariant-loop-k l = l.types ≡ l.initial.types ++ replicate l.k l.declared.element
