use Rattle.frame_history.specs.History.{start}
use Rattle.frame_worker.specs.Working.{hand}
use Rattle.frame_worker.proofs.Hands.{held_begun}
use Rattle.frame_worker.proofs.explorer.ExplorerCraft.begin.Goals as goal

pub returns-clause-holds : goal.returns-clause-holds
returns-clause-holds g c =
    let x = c.args.self.now in
    let h = c.args.hand.now in
    held_begun g.J.Begun.systems x.systems.now (start g.J.Begun.limits g.J.Begun.systems g.J.Begun.carried) x.purse.now
    (hand h.seat h.account.share.parts h.front h.solver h.first h.parts) c.solver_of.result c.requires.fresh x.begun c.solver_of.ensures
