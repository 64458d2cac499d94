-- Where the graph has no cycle, nothing is said.
use Rattle.smv_names.proofs.OfEntries.{all_allowed}
use Rattle.smv_names.proofs.defined.judge.Goals as goal

pub returns-then-branch : goal.returns-then-branch
returns-then-branch c = all_allowed c.args.graph.now (c.in_ok-is_acyclic.ensures c.if-branch.true) 0 _
