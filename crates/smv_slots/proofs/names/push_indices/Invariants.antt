-- The indices so far, and those of what is left.
use Rattle.std.proofs.Common.{◌≡◌, ◌++◌, drop, string_bytes}
use Rattle.smv_slots.specs.Names.{indices_of}
use Rattle.smv_slots.proofs.names.push_indices.Given as goal

abbrev pub invariant-loop-d : goal.invariant-loop-d
invariant-loop-d l = string_bytes l.name ++ indices_of (drop l.d l.dimensions) l.left ≡ string_bytes l.initial.name ++ indices_of l.dimensions l.initial.left
