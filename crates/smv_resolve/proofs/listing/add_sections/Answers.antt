use Rattle.std.proofs.Common.{◌+◌, arith, drop, ap}
use Rattle.std.proofs.lemmas.Result.{err_from_is_err_and}
use Rattle.std.proofs.lemmas.List.{drop_all}
use Rattle.std.specs.List.{flat_map}
use Rattle.smv_resolve.specs.Items.{items_in}
use Rattle.smv_scope.proofs.Indexing.{drop_next}
use Rattle.smv_resolve.proofs.Adding.{rests_start, rests_more, rests_end, rests_halt}
use Rattle.smv_resolve.proofs.listing.add_sections.Goals as goal

pub loop-section-init : goal.loop-section-init
loop-section-init c = record { known = c.requires.known; stand = c.requires.stand; rests = rests_start c.args.memo.now.nodes c.args.items.now _ }

pub returns-in_err-add_section-clause-adds : goal.returns-in_err-add_section-clause-adds
returns-in_err-add_section-clause-adds c =
    let p = err_from_is_err_and c.from_residual.result c.from_residual.ensures.1 in
    rw (p.1, p.2)
    (rests_halt c.args.memo.now.nodes c.loop-section.memo.nodes c.add_section.new.memo.nodes c.add_section.new.memo.nodes c.args.items.now c.loop-section.items c.add_section.new.items c.add_section.new.items
    (flat_map (items_in c.args.scope.now.program c.args.at) c.args.sections.now) _ _ (flat_map (items_in c.args.scope.now.program c.args.at) (drop (c.loop-section.section-index + 1) c.args.sections.now)) _
    (ap (flat_map (items_in c.args.scope.now.program c.args.at)) (drop_next c.args.sections.now c.loop-section.section-index c.section-item.result c.loop-section-test.true c.section-item.is)) c.loop-section.invariant.rests c.in_err-add_section.ensures.adds)

pub loop-section-preserved : goal.loop-section-preserved
loop-section-preserved c = record {
  known = c.in_ok-add_section.ensures.known;
  stand = c.in_ok-add_section.ensures.stand;
  rests =
      rests_more c.args.memo.now.nodes c.loop-section.memo.nodes c.add_section.new.memo.nodes c.args.items.now c.loop-section.items c.add_section.new.items _ _ _ (flat_map (items_in c.args.scope.now.program c.args.at) (drop (c.loop-section.section-index + 1) c.args.sections.now))
      (ap (flat_map (items_in c.args.scope.now.program c.args.at)) (drop_next c.args.sections.now c.loop-section.section-index c.section-item.result c.loop-section-test.true c.section-item.is)) c.loop-section.invariant.rests c.in_ok-add_section.ensures.adds;
}

pub returns-clause-adds : goal.returns-clause-adds
returns-clause-adds c =
    rests_end c.args.memo.now.nodes c.loop-section.memo.nodes c.args.items.now c.loop-section.items (flat_map (items_in c.args.scope.now.program c.args.at) c.args.sections.now) _
    (ap (flat_map (items_in c.args.scope.now.program c.args.at)) (drop_all c.loop-section.section-index c.args.sections.now (omega (arith, c.loop-section-test.false)))) c.loop-section.invariant.rests
