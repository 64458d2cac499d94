-- What draws through a seat of a purse that can be stopped leave as it was.
use Rattle.std.specs.Prelude.{◌≡◌}
use Rattle.effort_purse.specs.declared.seat.Seat.{Seat}
use Rattle.effort_purse.specs.Seats.{shares_of, lengths_of, has_no_more, has_raised}
use Rattle.frame_worker.specs.declared.stoppable.Stoppable.{Stoppable}

-- the purse, and all of the seat but its tickets and what it knows of the stop
pub record KeepsStoppable (before after : Stoppable) : Type 0 where
  pub purse : after.purse.now ≡ before.purse.now
  pub shares : shares_of after.seat ≡ shares_of before.seat
  pub lengths : lengths_of after.seat ≡ lengths_of before.seat
  pub no_more : has_no_more after.seat ≡ has_no_more before.seat
  pub raised : has_raised after.seat ≡ has_raised before.seat
