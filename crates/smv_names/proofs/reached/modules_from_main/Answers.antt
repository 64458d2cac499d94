-- The graph is that of the modules.
use Rattle.smv_names.proofs.Graphs.{closed}
use Rattle.smv_names.proofs.reached.modules_from_main.Goals as goal

pub from_node-requires-clause-closed : goal.from_node-requires-clause-closed
from_node-requires-clause-closed c = rw c.requires.graph (closed c.args.program.now)
