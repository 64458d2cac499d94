use Rattle.std.proofs.Common.{◌≡◌, length, List}
use Rattle.clause_core.specs.declared.literal.Lit.{Lit}
use Rattle.sat_core.specs.Searching.{SameMarks}
use Rattle.sat_core.proofs.query.mark_learned.Given as goal

abbrev pub invariant-loop-k : goal.invariant-loop-k
invariant-loop-k l = record {
  len : length l.marks.items ≡ l._k;
  same : (cs : List (List Lit)) → length cs ≡ l.n → SameMarks l.fn.marks.items l.marks.items cs;
}
