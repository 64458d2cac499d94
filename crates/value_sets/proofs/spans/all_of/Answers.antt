-- One span more.
use Rattle.std.proofs.Common.{sym}
use Rattle.value_sets.proofs.Runs.{not_here}
use Rattle.value_sets.proofs.spans.all_of.Goals as goal

pub returns-then-not-is_of : goal.returns-then-not-is_of
returns-then-not-is_of c = sym (not_here c.args.t.now c.args.spans.now c.loop-span.span-index _ c.loop-span-test.true (sym c.if-not-is_of.ensures))
