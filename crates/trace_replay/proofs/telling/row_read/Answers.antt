-- There are more bindings than columns, or fewer.
use Rattle.std.proofs.Common.{sym}
use Rattle.trace_replay.proofs.OfTelling.{row_read-uneven}
use Rattle.trace_replay.specs.Rows.{terms_of}
use Rattle.trace_replay.proofs.telling.row_read.Goals as goal

pub returns-then-columns-bindings : goal.returns-then-columns-bindings
returns-then-columns-bindings c = sym (row_read-uneven (terms_of c.args.typed.now.scope.program) c.args.columns.now c.args.bindings.now c.if-columns-bindings.true)
