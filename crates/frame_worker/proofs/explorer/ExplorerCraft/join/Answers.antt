use Rattle.std.proofs.Common.{◌+◌, refl}
use Rattle.frame_history.specs.History.{start}
use Rattle.frame_worker.specs.Working.{hand}
use Rattle.frame_worker.proofs.Hands.{held_both}
use Rattle.frame_worker.proofs.explorer.ExplorerCraft.join.Goals as goal

pub returns-clause-holds : goal.returns-clause-holds
returns-clause-holds g c =
    let x = c.args.self.now in
    let a = c.args.hand.now in
    let b = c.args.other in
    held_both g.J.Begun.systems (start g.J.Begun.limits g.J.Begun.systems g.J.Begun.carried) x.purse.now
    (hand a.seat a.account.share.parts a.front a.solver a.first a.parts) (hand b.seat b.account.share.parts b.front b.solver b.first b.parts) c.join.new.seat
    c.merge.new.self.share.parts (a.parts + b.parts) c.unite.new.self c.requires.holds c.requires.other c.requires.next c.join.ensures.own c.join.ensures.joined
    c.merge.ensures.parts refl c.unite.ensures.mine c.unite.ensures.other
