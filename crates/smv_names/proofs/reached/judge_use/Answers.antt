-- The graph is that of the modules.
use Rattle.std.proofs.Common.{◌∙◌}
use Rattle.smv_names.proofs.Graphs.{closed}
use Rattle.smv_names.proofs.reached.judge_use.Goals as goal

pub reaches-requires-clause-closed : goal.reaches-requires-clause-closed
reaches-requires-clause-closed c = rw (c.deref.ensures.value ∙ c.args.uses.now.leading) (closed c.args.uses.now.program.now)
