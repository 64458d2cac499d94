use Rattle.std.proofs.Common.{arith, ◌∙◌, get_or}
use Rattle.frame_book.proofs.Accepted.{covered_still, retired_more, same_trans}
use Rattle.frame_book.proofs.settling.retire.Goals as goal

pub retire_one-requires-clause-covered : goal.retire_one-requires-clause-covered
retire_one-requires-clause-covered c =
    covered_still c.args.levels.now.lemmas c.loop-n.levels.lemmas c.args.m (get_or c.args.covered.now c.loop-n.n-index 0) c.loop-n.invariant.1
    (c.requires.covered c.loop-n.n-index 0 c.loop-n-test.true)

pub loop-n-preserved : goal.loop-n-preserved
loop-n-preserved c =
    let i = c.loop-n.invariant in
    let e = c.retire_one.ensures in
    let room = i.3 in
    let more = e.room in (
      retired_more c.args.levels.now c.loop-n.levels c.retire_one.new.levels c.args.changes.now.items c.loop-n.changes.items c.retire_one.new.changes.items i.0 e.done,
      same_trans c.args.levels.now.lemmas c.loop-n.levels.lemmas c.retire_one.new.levels.lemmas i.1 e.same,
      e.live,
      omega (arith, room, more),
      e.capacity ∙ i.4,
    )
