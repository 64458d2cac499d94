-- The test on all lists says that they make a graph.
use Rattle.digraph.proofs.Closing.{closed_iff}
use Rattle.digraph.proofs.closed.is_closed.Goals as goal

pub returns : goal.returns
returns c = closed_iff c.args.g.now c.all_below.result c.all_below.ensures
