-- The nodes so far are told, and the kinds of slots are those of their types.
use Rattle.std.proofs.Common.{take}
use Rattle.smv_resolve.specs.Resolved.{parts_of}
use Rattle.smv_types.specs.Judged.{Tells}
use Rattle.smv_types.proofs.kinds.judge_nodes.Given as goal

abbrev pub invariant-loop-i : goal.invariant-loop-i
invariant-loop-i l = Tells l.slots l.types (parts_of (take l.i l.nodes)) l.operands.items l.judged
