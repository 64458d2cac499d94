use Rattle.std.proofs.Common.{arith}
use Rattle.smv_resolve.proofs.Growing.{Grows-two}
use Rattle.smv_resolve.proofs.Adding.{stand_more, added_assignment}
use Rattle.smv_resolve.proofs.listing.add_assignment.Goals as goal

pub returns-clause-stand : goal.returns-clause-stand
returns-clause-stand c =
    stand_more c.args.memo.now.nodes c.find_root.new.memo.nodes c.args.items.now c.push.new.self _ (Grows-two c.in_ok-target.ensures.grows c.in_ok-value.ensures.grows) c.requires.stand
    (omega (arith, c.in_ok-target.ensures.finds.stands, c.in_ok-value.ensures.grows.longer)) c.in_ok-value.ensures.finds.stands c.in_ok-push.ensures.ok

pub returns-clause-adds : goal.returns-clause-adds
returns-clause-adds c =
    added_assignment c.args.scope.now.program c.args.at c.args.a.now c.args.memo.now.nodes c.find_left.new.memo.nodes c.find_root.new.memo.nodes c.args.items.now c.push.new.self
    c.in_ok-target.target c.in_ok-value.value c.in_ok-target.ensures.grows c.in_ok-value.ensures.grows c.requires.stand c.in_ok-target.ensures.finds c.in_ok-value.ensures.finds
    (rw (← c.first_place.ensures) c.in_ok-push.ensures.ok)
