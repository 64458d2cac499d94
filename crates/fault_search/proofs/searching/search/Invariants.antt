use Rattle.std.proofs.Common.{◌≡◌}
use Rattle.fault_search.specs.Paying.{PaysBelow}
use Rattle.fault_search.proofs.Answered.{AnsweredBelow}
use Rattle.fault_search.proofs.searching.search.Given as goal

abbrev pub invariant-loop-item : goal.invariant-loop-item
invariant-loop-item g l = record {
  answered : AnsweredBelow l.questions l.sound l.item;
  pays : PaysBelow l.questions l.item (g.Q.Purse.tickets l.fn.purse) (g.Q.Purse.tickets l.purse);
  kept : g.Q.Purse.kept l.fn.purse l.purse;
  ready : g.Q.Purse.ready l.purse;
  budget : g.Q.Purse.budget l.purse ≡ g.Q.Purse.budget l.fn.purse;
}
