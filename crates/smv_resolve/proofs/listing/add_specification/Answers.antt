use Rattle.smv_resolve.specs.declared.item.ItemKind.TheVariants as item
use Rattle.smv_resolve.specs.FirstPlaces.{first_place}
use Rattle.smv_resolve.proofs.Adding.{stand_more, added_plain}
use Rattle.smv_resolve.proofs.listing.add_specification.Goals as goal

pub returns-clause-stand : goal.returns-clause-stand
returns-clause-stand c =
    stand_more c.args.memo.now.nodes c.find_root.new.memo.nodes c.args.items.now c.push.new.self _ c.in_ok-value.ensures.grows c.requires.stand tt c.in_ok-value.ensures.finds.stands
    c.in_ok-push.ensures.ok

pub returns-clause-adds : goal.returns-clause-adds
returns-clause-adds c =
    added_plain c.args.scope.now.program c.args.at (item.Specification c.args.s.now.kind) c.args.s.now.place (first_place c.args.s.now.formula) c.args.s.now.formula c.args.memo.now.nodes c.find_root.new.memo.nodes
    c.args.items.now c.push.new.self c.in_ok-value.value c.in_ok-value.ensures.grows c.requires.stand c.in_ok-value.ensures.finds
    (rw (← c.first_place.ensures) c.in_ok-push.ensures.ok)
