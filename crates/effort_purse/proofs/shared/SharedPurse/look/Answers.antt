use Rattle.std.proofs.Common.{arith}
use Rattle.effort_purse.proofs.Steps.{sees_stop}
use Rattle.effort_purse.proofs.shared.SharedPurse.look.Goals as goal

pub load-requires : goal.load-requires
load-requires g c =
    let purse = c.args.self.now in
    let seat = c.args.seat.now in
    (c.requires.own, omega (arith, purse.words), sees_stop _ g.L.Limited.limits _ seat.id seat.me c.requires.limits c.requires.share)
