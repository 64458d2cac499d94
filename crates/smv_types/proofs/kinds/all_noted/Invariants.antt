-- What is noted of the operands so far.
use Rattle.std.proofs.Common.{List, take}
use Rattle.value_types.specs.declared.value_type.ValueType.{ValueType}
use Rattle.smv_slots.specs.declared.slot.Slot.{Slot}
use Rattle.smv_resolve.specs.Resolved.{Resolved, operands_of}
use Rattle.smv_types.specs.Judged.{AreJudged, AreNotes}
use Rattle.smv_types.specs.Kinds.{operands_refusal}
use Rattle.smv_types.proofs.kinds.all_noted.Given as goal

abbrev pub invariant-loop-k : goal.invariant-loop-k
invariant-loop-k l =
    (slots : List Slot) (types : List ValueType) (rs : List Resolved) → AreJudged slots types rs l.table →
    AreNotes (λ c. operands_refusal slots types l.operator 0 c (operands_of (take l.k rs))) l.all
