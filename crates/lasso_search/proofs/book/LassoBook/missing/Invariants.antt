use Rattle.std.proofs.Common.{ℕ, ◌<◌, ◌≤◌, IsSome}
use Rattle.lasso_search.specs.Books.{entry}
use Rattle.lasso_search.proofs.book.LassoBook.missing.Given as goal

abbrev pub invariant-loop-k : goal.invariant-loop-k
invariant-loop-k l = (n : ℕ) → 0 < n → n ≤ l.k → IsSome (entry l.self n)
