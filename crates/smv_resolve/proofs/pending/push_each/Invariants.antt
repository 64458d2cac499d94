-- What is pending is what names share.
use Rattle.smv_resolve.specs.Pending.{AllLead}
use Rattle.smv_resolve.proofs.pending.push_each.Given as goal

abbrev pub invariant-loop-name : goal.invariant-loop-name
invariant-loop-name l = AllLead l.scope.program l.pending
