use Rattle.std.proofs.Common.{arith}
use Rattle.effort_purse.proofs.Steps.{draws_bound}
use Rattle.effort_purse.proofs.shared.SharedPurse.take_bound.Goals as goal

pub fetch_add-requires : goal.fetch_add-requires
fetch_add-requires g c =
    let purse = c.args.self.now in
    let seat = c.args.seat.now in
    (c.requires.own, omega (arith, purse.words), draws_bound _ g.L.Limited.limits _ seat.id seat.me c.requires.limits c.requires.share c.requires.fresh)
