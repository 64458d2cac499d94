use Rattle.std.proofs.Common.{◌≡◌, ℕ, ◌<◌, ◌≤◌, Some}
use Rattle.lasso_search.specs.Books.{entry}
use Rattle.lasso_search.specs.Lassos.{Lasso}
use Rattle.lasso_search.proofs.book.LassoBook.found.Given as goal

abbrev pub invariant-loop-entry : goal.invariant-loop-entry
invariant-loop-entry l = (n : ℕ) (r : Lasso) → 0 < n → n ≤ l.entry-index → entry l.self n ≡ Some (Some r) → ⊥
