-- The records so far are written.
use Rattle.std.proofs.Common.{◌≡◌, ◌≤◌, map, take}
use Rattle.smv_cli.specs.Written.{IsPool, WritesRecords, item_in, program_in}
use Rattle.smv_cli.proofs.print.put_records.Given as goal

abbrev pub invariant-specs : goal.invariant-specs
invariant-specs g l = record {
  so_far : WritesRecords (program_in l.model) l.model.effort (take l.i (map (item_in l.model) l.specs)) (g.K.Sink.taken l.initial.sink) (g.K.Sink.taken l.sink) l.status;
  small : l.status ≤ 2;
  pool : IsPool (program_in l.model) l.model.built.systems l.model.effort l.i l.pool.items;
  same : g.K.Sink.faults l.sink ≡ g.K.Sink.faults l.initial.sink;
}
