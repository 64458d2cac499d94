use Rattle.std.proofs.Common.{◌≡◌, None, replicate}
use Rattle.lasso_search.proofs.book.LassoBook.new.Given as goal

abbrev pub invariant-loop : goal.invariant-loop
invariant-loop l = l.entries.items ≡ replicate l.counter None
