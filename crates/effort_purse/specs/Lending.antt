-- What draws through a seat that is lent with its purse leave as it was.
use Rattle.std.specs.Prelude.{◌≡◌}
use Rattle.effort_purse.specs.declared.seat.Seat.{Seat}
use Rattle.effort_purse.specs.declared.lent.Lent.{Lent}
use Rattle.effort_purse.specs.Seats.{shares_of, lengths_of, has_no_more, has_raised, knows_stop}

-- all of a seat but its tickets
pub record KeepsSeat (before after : Seat) : Type 0 where
  pub shares : shares_of after ≡ shares_of before
  pub lengths : lengths_of after ≡ lengths_of before
  pub no_more : has_no_more after ≡ has_no_more before
  pub raised : has_raised after ≡ has_raised before
  pub stop : knows_stop after ≡ knows_stop before

-- the purse, and all of the seat but its tickets
pub record KeepsLent (before after : Lent) : Type 0 where
  pub purse : after.purse.now ≡ before.purse.now
  pub seat : KeepsSeat before.seat after.seat
