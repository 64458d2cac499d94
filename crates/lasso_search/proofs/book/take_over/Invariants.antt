use Rattle.std.proofs.Common.{◌≡◌, ℕ, ◌<◌, ◌≤◌, length, get_or, None}
use Rattle.lasso_search.specs.Books.{either}
use Rattle.lasso_search.proofs.book.take_over.Given as goal

-- the entries before k are joined, those from k on are as they were
abbrev pub invariant-loop-k : goal.invariant-loop-k
invariant-loop-k l =
    (length l.into ≡ length l.initial.into)
    × ((i : ℕ) → i < l.k → get_or l.into i None ≡ either (get_or l.initial.into i None) (get_or l.initial.from i None))
    × ((i : ℕ) → l.k ≤ i → get_or l.into i None ≡ get_or l.initial.into i None)
    × ((i : ℕ) → l.k ≤ i → get_or l.from i None ≡ get_or l.initial.from i None)
