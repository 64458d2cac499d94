-- Of the nodes so far none is new, and the search has come to rest.
use Rattle.std.proofs.Common.{◌≢◌, ◌<◌, ℕ, []}
use Rattle.digraph.specs.Search.{Scanned, Searched, mark}
use Rattle.digraph.specs.declared.mark.Mark.TheVariants as M
use Rattle.digraph.proofs.find.find_cycle.Given as goal

abbrev pub invariant-loop-s : goal.invariant-loop-s
invariant-loop-s l = record {
  at : Searched l.g l.marks.items [] l.done;
  begun : (k : ℕ) → k < l.s → mark l.marks.items k ≢ M.New;
  passed : Scanned l.g l.marks.items l.scanned.items;
}
