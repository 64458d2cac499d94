use Rattle.std.proofs.Common.{◌≡◌, take}
use Rattle.std.specs.List.{fold}
use Rattle.smv_kinds.specs.declared.kind.Operand.{Operand}
use Rattle.smv_kinds.specs.Kinds.{joined, set_of}
use Rattle.smv_kinds.proofs.sets.members_from.Given as goal

abbrev pub invariant-loop-x : goal.invariant-loop-x
invariant-loop-x l = l.kind ≡ fold (λ k (y : Operand). joined k (set_of y.kind)) l.fn.first (take l.x-index l.operands)
