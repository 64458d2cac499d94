use Rattle.std.proofs.Common.{arith}
use Rattle.effort_purse.proofs.Steps.{glues}
use Rattle.effort_purse.proofs.shared.SharedPurse.join.Goals as goal

pub join_seat-requires : goal.join_seat-requires
join_seat-requires c =
    let purse = c.args.self.now in
    let seat = c.args.seat.now.inner in
    let other = c.args.other.inner in
    (c.requires.own.table, c.requires.other_own.table, c.args.other.bare, omega (arith, purse.words), glues _ seat.id other.id seat.me.0 other.me.0)
