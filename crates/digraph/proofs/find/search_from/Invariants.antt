-- Where the search stands; each turn makes the marks lighter.
use Rattle.std.proofs.Common.{◌≢◌, sum_by}
use Rattle.digraph.specs.Search.{Scanned, Searched, Begun, mark, weight}
use Rattle.digraph.specs.declared.mark.Mark.TheVariants as M
use Rattle.digraph.proofs.find.search_from.Given as goal

abbrev pub invariant-loop-top : goal.invariant-loop-top
invariant-loop-top l = record {
  at : Searched l.g l.marks.items l.path.items l.done;
  begun : Begun l.fn.marks.items l.marks.items;
  start : mark l.marks.items l.start ≢ M.New;
  passed : Scanned l.g l.marks.items l.scanned.items;
}

abbrev pub decreases-loop-top : goal.decreases-loop-top
decreases-loop-top l = sum_by weight l.marks.items
