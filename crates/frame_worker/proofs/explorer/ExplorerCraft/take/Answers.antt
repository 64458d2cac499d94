use Rattle.frame_history.specs.History.{start}
use Rattle.frame_worker.specs.Working.{hand}
use Rattle.frame_worker.proofs.Hands.{held_seen}
use Rattle.frame_worker.proofs.Tasks.{took_so, still_so}
use Rattle.frame_worker.proofs.explorer.ExplorerCraft.take.Goals as goal

pub returns-clause-took : goal.returns-clause-took
returns-clause-took g c =
    let x = c.args.self.now in
    let h = c.args.hand.now in
    let first = start g.J.Begun.limits g.J.Begun.systems g.J.Begun.carried in
    let mine = hand h.seat h.account.share.parts h.front h.solver h.first h.parts in
    let front = c.show.new.front in
    let held = held_seen g.J.Begun.systems first x.purse.now mine front c.show.new.solver c.requires.holds c.show.ensures.seen c.show.ensures.follows c.show.ensures.known in
    took_so g.J.Begun.systems g.J.Begun.limits first x.purse.now mine front c.claim.new.front c.show.new.solver c.claim.result held
    (c.show.ensures.all c.if-not-show.false).1 c.claim.ensures.task

pub returns-clause-holds : goal.returns-clause-holds
returns-clause-holds g c =
    let x = c.args.self.now in
    let h = c.args.hand.now in
    let first = start g.J.Begun.limits g.J.Begun.systems g.J.Begun.carried in
    let mine = hand h.seat h.account.share.parts h.front h.solver h.first h.parts in
    let front = c.show.new.front in
    let held = held_seen g.J.Begun.systems first x.purse.now mine front c.show.new.solver c.requires.holds c.show.ensures.seen c.show.ensures.follows c.show.ensures.known in
    still_so g.J.Begun.systems first x.purse.now mine front c.claim.new.front c.show.new.solver c.claim.result held c.claim.ensures.none

pub returns-then-not-show-clause-holds : goal.returns-then-not-show-clause-holds
returns-then-not-show-clause-holds g c =
    let x = c.args.self.now in
    let h = c.args.hand.now in
    let first = start g.J.Begun.limits g.J.Begun.systems g.J.Begun.carried in
    held_seen g.J.Begun.systems first x.purse.now (hand h.seat h.account.share.parts h.front h.solver h.first h.parts) c.show.new.front c.show.new.solver
    c.requires.holds c.show.ensures.seen c.show.ensures.follows c.show.ensures.known
