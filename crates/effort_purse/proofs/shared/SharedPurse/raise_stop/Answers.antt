use Rattle.std.proofs.Common.{arith}
use Rattle.effort_purse.proofs.Steps.{raises_stop}
use Rattle.effort_purse.proofs.shared.SharedPurse.raise_stop.Goals as goal

pub fetch_or-requires : goal.fetch_or-requires
fetch_or-requires c =
    let purse = c.args.self.now in
    let seat = c.args.seat.now.inner in
    (c.requires.own.table, omega (arith, purse.words), raises_stop _ _ seat.id seat.me c.requires.own.some)
