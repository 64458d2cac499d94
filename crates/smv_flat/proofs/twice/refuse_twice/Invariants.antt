-- The marks know the assignments so far, and what is left gives the refusal.
use Rattle.std.proofs.Common.{◌≡◌, length, map, take, drop}
use Rattle.smv_slots.specs.Slots.{slots_of}
use Rattle.smv_flat.specs.Assignments.{assigned_twice, twice}
use Rattle.smv_flat.specs.Graph.{assigned_by}
use Rattle.smv_flat.specs.Marks.{Knows}
use Rattle.smv_flat.proofs.twice.refuse_twice.Given as goal

abbrev pub invariant-loop-a : goal.invariant-loop-a
invariant-loop-a l = record {
  long : length l.taken.items ≡ length (slots_of l.typed.scope.program);
  knows : Knows l.taken.items (take l.a-index (map (assigned_by l.typed.nodes) l.all));
  left : twice l.typed.scope.program (take l.a-index (map (assigned_by l.typed.nodes) l.all)) (drop l.a-index (map (assigned_by l.typed.nodes) l.all)) ≡ assigned_twice l.typed.scope.program;
}
