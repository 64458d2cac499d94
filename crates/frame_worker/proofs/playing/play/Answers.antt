use Rattle.std.proofs.Common.{List, subst, arith}
use mathlib.Core.List.{IsPrefix}
use Rattle.effort_purse.specs.declared.seat.Seat.{Seat}
use Rattle.effort_purse.specs.Seats.{Joins}
use Rattle.frame_history.specs.declared.entries.Entry.{Entry}
use Rattle.frame_history.specs.History.{start}
use Rattle.frame_worker.specs.Working.{hand}
use Rattle.frame_worker.proofs.Meetings.{played}
use Rattle.frame_worker.proofs.playing.play.Goals as goal

pub returns-clause-played : goal.returns-clause-played
returns-clause-played g c =
    let a = c.finish.result in
    let b = c.fan_out.result in
    let front = c.unite.new.self in
    played g.J.Begun.systems (start g.J.Begun.limits g.J.Begun.systems g.J.Begun.carried) c.args.crew.now.craft.purse.now
    (hand a.seat a.account.share.parts a.front a.solver a.first a.parts) (hand b.seat b.account.share.parts b.front b.solver b.first b.parts)
    c.args.seat c.split.new.seat c.join.new.seat c.split-2.new.seat c.join-2.new.seat front c.finish.ensures.holds c.fan_out.ensures.holds
    c.finish.ensures.first c.finish.ensures.parts c.fan_out.ensures.first c.split.ensures.tickets
    (subst (λ (s : Seat). Joins c.split.new.seat s c.join.new.seat) c.left_of-theirs.ensures.seat c.join.ensures.joined) c.split-2.ensures.tickets
    (subst (λ (s : Seat). Joins c.split-2.new.seat s c.join-2.new.seat) c.left_of-own.ensures.seat c.join-2.ensures.joined)
    (subst (λ (z : List Entry). IsPrefix z front) c.left_of-own.ensures.front c.unite.ensures.mine)
    (subst (λ (z : List Entry). IsPrefix z front) c.left_of-theirs.ensures.front c.unite.ensures.other)

pub returns-clause-parts : goal.returns-clause-parts
returns-clause-parts g c =
    let all = c.merge.ensures.parts in
    let own = c.left_of-own.ensures.parts in
    let theirs = c.left_of-theirs.ensures.parts in
    let one = c.finish.ensures.holds.has.share_is in
    let one' = c.finish.ensures.parts in
    let many = c.fan_out.ensures.holds.has.share_is in
    let many' = c.fan_out.ensures.parts in
    let given = c.requires.parts in
    omega (arith, all, own, theirs, one, one', many, many', given)
