-- The lists hold where the values stand by the assignments so far.
use Rattle.std.proofs.Common.{◌≡◌, length, take}
use Rattle.smv_flat.proofs.Rows.{Lists}
use Rattle.smv_flat.proofs.graph.slot_rows.Given as goal

abbrev pub invariant-loop-a : goal.invariant-loop-a
invariant-loop-a l = record {
  long : length l.graph.items ≡ l.slots;
  lists : Lists l.slots l.nodes l.time l.graph.items (take l.a-index l.all);
}
