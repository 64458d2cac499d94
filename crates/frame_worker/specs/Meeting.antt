-- What holds when all workers have met.
use Rattle.std.specs.Prelude.{◌≡◌, ℕ, ◌+◌, false, List, [], ◌∷◌, ◌++◌}
use Rattle.effort_purse.specs.declared.seat.Seat.{Seat}
use Rattle.effort_purse.specs.Seats.{is_spent}
use Rattle.frame_history.specs.declared.entries.Entry.{Entry}
use Rattle.frame_history.specs.History.{BookState, start, IsClosed}
use Rattle.frame_book.specs.Book.{BookView}
use Rattle.frame_claims.specs.Apart.{VoidsAreOld}
use Rattle.frame_claims.specs.Lists.{ArePaidLists}
use Rattle.frame_claims.specs.Paying.{ClaimQuery}

-- what was drawn since there were `old` was paid for queries of claims of the history that was seen
pub record ArePlayed (first : BookState) (front : List Entry) (old now : ℕ) : Type 0 where
  pub drawn : ℕ
  pub all : old + drawn ≡ now
  pub count : ℕ
  pub own : List ClaimQuery
  pub others : List (List ClaimQuery)
  pub lists : ArePaidLists first front 0 count [] drawn own others

-- no two claims of the book are equal, it is closed, and that the purse was spent it notes only where the seat knows of
-- it
pub record IsUsable (seat : Seat) (b : BookView) : Type 0 where
  pub apart : VoidsAreOld (start b.limits b.systems b.carried) b.history
  pub closed : IsClosed b.state
  pub unspent : is_spent seat ≡ false → b.state.spent ≡ false

-- the history has one entry more
abbrev pub HasOneMore : List Entry → List Entry → Type 0
HasOneMore before now = (e : Entry) × (now ≡ before ++ e ∷ [])
