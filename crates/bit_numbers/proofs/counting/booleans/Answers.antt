-- All of them.
use Rattle.std.proofs.Common.{arith, sym}
use Rattle.bit_numbers.proofs.OfCounts.{all_booleans, booleans_counted, booleans_stand}
use Rattle.bit_numbers.proofs.counting.booleans.Goals as goal

pub returns-clause-stands : goal.returns-clause-stands
returns-clause-stands c = λ g h. booleans_stand g c.args.operands.now c.operands.edges.items c.operands.i c.operands.invariant (omega arith) h

pub returns-clause-value : goal.returns-clause-value
returns-clause-value c = λ v xs h. booleans_counted v c.args.operands.now c.operands.edges.items xs c.operands.i c.operands.invariant (omega arith) h

pub returns-clause-kinds : goal.returns-clause-kinds
returns-clause-kinds c = sym (all_booleans c.args.operands.now c.operands.edges.items c.operands.i c.operands.invariant (omega arith))
