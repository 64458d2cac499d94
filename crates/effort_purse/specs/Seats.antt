-- Shared purses and their seats, as contracts see them.
use Rattle.std.specs.Prelude.{◌≡◌, ℕ, ◌+◌, ◌<◌, ◌≤◌, Bool, false, ◌||◌, List, [], ◌++◌}
use Rattle.effort_purse.specs.declared.view.View.{View}
use Rattle.effort_purse.specs.declared.view.Limits.{Limits}
use Rattle.effort_purse.specs.declared.seat.Seat.{Seat}
use Rattle.effort_purse.specs.declared.shared.SharedPurse.{SharedPurse}
use Rattle.effort_purse.specs.Rule.{lengths_in, KnowsWhole}

-- the limits that a purse was made with
abbrev pub limits_of : SharedPurse → Limits
limits_of purse = purse.table.shared.key

-- how many tickets there are in all
abbrev pub budget_of : SharedPurse → ℕ
budget_of purse = (limits_of purse).budget

-- the greatest length that is given
abbrev pub bounds_of : SharedPurse → ℕ
bounds_of purse = (limits_of purse).bounds

-- how many shares all seats have together
abbrev pub seats_of : SharedPurse → ℕ
seats_of purse = (limits_of purse).seats

-- what a seat knows
abbrev pub view_of : Seat → View
view_of seat = seat.inner.me.0

-- a seat's shares
abbrev pub shares_of : Seat → ℕ
shares_of seat = (view_of seat).shares

-- the tickets that a seat drew, in order, and those of the seats joined into it
abbrev pub tickets_of : Seat → List ℕ
tickets_of seat = (view_of seat).tickets.drawn

-- whether a seat was answered Spent, or split from such a seat, or had one joined into it
abbrev pub is_spent : Seat → Bool
is_spent seat = (view_of seat).tickets.done

-- the lengths that a seat was given, in order, and those of the seats joined into it
abbrev pub lengths_of : Seat → List ℕ
lengths_of seat = lengths_in (view_of seat)

-- whether a seat was answered NoMore, or split from such a seat, or had one joined into it
abbrev pub has_no_more : Seat → Bool
has_no_more seat = (view_of seat).bounds.done

-- whether a seat raised the stop, or had a seat that did joined into it
abbrev pub has_raised : Seat → Bool
has_raised seat = (view_of seat).raised

-- whether a seat raised the stop or was told that it is raised, or had such a seat joined into it
abbrev pub knows_stop : Seat → Bool
knows_stop seat = (view_of seat).raised || (view_of seat).saw

-- a seat of this purse: it has at least one share and at most all, and with all it knows all that was drawn
pub record IsSeatOf (purse : SharedPurse) (seat : Seat) : Type 0 where
  pub table : seat.inner.table_id ≡ purse.table.shared.table_id
  pub some : 0 < shares_of seat
  pub within : shares_of seat ≤ seats_of purse
  pub whole : KnowsWhole (limits_of purse) (view_of seat)

-- the first seat: every share, and nothing drawn, ended or raised
pub record IsFirstSeat (seats : ℕ) (seat : Seat) : Type 0 where
  pub shares : shares_of seat ≡ seats
  pub tickets : tickets_of seat ≡ []
  pub spent : is_spent seat ≡ false
  pub lengths : lengths_of seat ≡ []
  pub no_more : has_no_more seat ≡ false
  pub raised : has_raised seat ≡ false
  pub stop : knows_stop seat ≡ false

-- the tickets and whether they are spent stay
pub record KeepsTickets (before after : Seat) : Type 0 where
  pub tickets : tickets_of after ≡ tickets_of before
  pub spent : is_spent after ≡ is_spent before

-- the lengths and whether there are no more stay
pub record KeepsLengths (before after : Seat) : Type 0 where
  pub lengths : lengths_of after ≡ lengths_of before
  pub no_more : has_no_more after ≡ has_no_more before

-- what is known of the stop stays
pub record KeepsStop (before after : Seat) : Type 0 where
  pub raised : has_raised after ≡ has_raised before
  pub stop : knows_stop after ≡ knows_stop before

-- a seat that was split off with so many shares: no numbers, and at an end where the first was
pub record IsSplitFrom (before : Seat) (count : ℕ) (seat : Seat) : Type 0 where
  pub shares : shares_of seat ≡ count
  pub tickets : tickets_of seat ≡ []
  pub spent : is_spent seat ≡ is_spent before
  pub lengths : lengths_of seat ≡ []
  pub no_more : has_no_more seat ≡ has_no_more before
  pub raised : has_raised seat ≡ false
  pub stop : knows_stop seat ≡ false

-- a seat that took another back: the shares and numbers of both, and what one of them knew
pub record Joins (before other after : Seat) : Type 0 where
  pub shares : shares_of after ≡ shares_of before + shares_of other
  pub tickets : tickets_of after ≡ tickets_of before ++ tickets_of other
  pub spent : is_spent after ≡ (is_spent before || is_spent other)
  pub lengths : lengths_of after ≡ lengths_of before ++ lengths_of other
  pub no_more : has_no_more after ≡ (has_no_more before || has_no_more other)
  pub raised : has_raised after ≡ (has_raised before || has_raised other)
  pub stop : knows_stop after ≡ (knows_stop before || knows_stop other)
