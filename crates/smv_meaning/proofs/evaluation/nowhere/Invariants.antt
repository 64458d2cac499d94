-- The outcomes of the nodes so far.
use Rattle.std.proofs.Common.{◌≡◌, [], take}
use Rattle.smv_meaning.specs.Tables.{outcomes_of}
use Rattle.smv_meaning.proofs.evaluation.nowhere.Given as goal

abbrev pub invariant-loop-node : goal.invariant-loop-node
invariant-loop-node l = l.made.items ≡ outcomes_of l.slots [] [] [] (take l.node-index l.nodes)
