use Rattle.std.proofs.Common.{◌≡◌, false, ◌∙◌, arith}
use Rattle.effort_purse.proofs.Lengths.{next_length}
use Rattle.effort_purse.proofs.shared.SharedPurse.next_bound.Goals as goal

pub returns-then-found-self-clause-drawn : goal.returns-then-found-self-clause-drawn
returns-then-found-self-clause-drawn c =
    let purse = c.args.self.now in
    let seat = c.args.seat.now in
    let fresh : seat.inner.me.0.bounds.done ≡ false = seat.no_more_is ∙ c.if-seat.false in
    let next = next_length purse.bounds c.take_bound-found.result seat.inner.me.0 c.take_bound-found.new.seat.me.0 c.if-found-self.true fresh c.take_bound-found.ensures.takes in
    (omega arith, omega (arith, purse.bounds_is), next.0, next.1, fresh, next.2)
