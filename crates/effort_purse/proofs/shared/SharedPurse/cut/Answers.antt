use Rattle.std.proofs.Common.{ℕ, arith}
use Rattle.effort_purse.proofs.Steps.{cuts}
use Rattle.effort_purse.proofs.shared.SharedPurse.cut.Goals as goal

pub split_seat-requires : goal.split_seat-requires
split_seat-requires g c =
    let purse = c.args.self.now in
    let seat = c.args.seat.now in
    let n : ℕ = g.L.Told.number in
    (c.requires.own, omega (arith, purse.words), cuts _ seat.id n seat.me.0 (omega (arith, c.requires.told)) (omega (arith, c.requires.told)))
