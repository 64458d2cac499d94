-- What is known is right, and what is pending is what names share.
use Rattle.smv_resolve.specs.Finding.{Grows, AllKnown}
use Rattle.smv_resolve.specs.Pending.{AllLead}
use Rattle.smv_resolve.proofs.pending.find_pending.Given as goal

abbrev pub invariant-pending : goal.invariant-pending
invariant-pending l = record {
  known : AllKnown l.scope.program l.memo;
  grows : Grows l.initial.memo.nodes l.memo.nodes;
  lead : AllLead l.scope.program l.pending;
}
