-- Nothing of all nodes.
use Rattle.std.proofs.Common.{arith}
use Rattle.bit_outcomes.proofs.OfNodes.{none_stand, tells_none}
use Rattle.bit_outcomes.proofs.nodes.untold.Goals as goal

pub returns-clause-stand : goal.returns-clause-stand
returns-clause-stand c = λ g. none_stand g c.nodes.made c.nodes.invariant.untold

pub returns-clause-told : goal.returns-clause-told
returns-clause-told c = λ v os long.
    tells_none v c.nodes.made os (omega (arith, long, c.nodes.invariant.long, c.nodes.auto.i-end, c.nodes-test.false)) c.nodes.invariant.untold
