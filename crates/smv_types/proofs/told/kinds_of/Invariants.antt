-- The kinds of the types so far.
use Rattle.std.proofs.Common.{◌≡◌, map, take}
use Rattle.smv_types.specs.Kinds.{kind_of_type}
use Rattle.smv_types.proofs.told.kinds_of.Given as goal

abbrev pub invariant-loop-declared : goal.invariant-loop-declared
invariant-loop-declared l = l.kinds.items ≡ map kind_of_type (take l.declared-index l.types)
