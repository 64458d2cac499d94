-- The operands so far name nothing.
use Rattle.std.proofs.Common.{take}
use Rattle.smv_declared.specs.Closed.{AreClosed, AreClosedLinks}
use Rattle.smv_declared.proofs.closed.+closed.Given as goal

abbrev pub invariant-are_closed-loop-e : goal.invariant-are_closed-loop-e
invariant-are_closed-loop-e l = AreClosed l.scope.program l.from (take l.e-index l.operands)

abbrev pub invariant-are_closed_links-loop-link : goal.invariant-are_closed_links-loop-link
invariant-are_closed_links-loop-link l = AreClosedLinks l.scope.program l.from (take l.link-index l.links)
