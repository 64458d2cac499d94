use Rattle.std.proofs.Common.{◌+◌, arith, drop, ap, None}
use Rattle.std.proofs.lemmas.Result.{err_from_is_err_and}
use Rattle.std.proofs.lemmas.List.{drop_all, drop_more}
use Rattle.smv_resolve.specs.Items.{items_below}
use Rattle.smv_resolve.proofs.Adding.{rests_start, rests_more, rests_end, rests_halt}
use Rattle.smv_resolve.proofs.listing.add_instances.Goals as goal

pub loop-at-init : goal.loop-at-init
loop-at-init c = record { known = c.requires.known; stand = c.requires.stand; rests = rests_start c.args.memo.now.nodes c.args.items.now _ }

pub returns-in_err-add_instance-clause-adds : goal.returns-in_err-add_instance-clause-adds
returns-in_err-add_instance-clause-adds c =
    let p = err_from_is_err_and c.from_residual.result c.from_residual.ensures.1 in
    rw (p.1, p.2)
    (rests_halt c.args.memo.now.nodes c.loop-at.memo.nodes c.add_instance.new.memo.nodes c.add_instance.new.memo.nodes c.args.items.now c.loop-at.items c.add_instance.new.items c.add_instance.new.items
    (items_below c.args.scope.now.program 0 c.args.tree.now) _ _ (items_below c.args.scope.now.program (c.loop-at.at + 1) (drop (c.loop-at.at + 1) c.args.tree.now)) _
    (ap (items_below c.args.scope.now.program c.loop-at.at) (drop_more c.args.tree.now c.loop-at.at (record { of_module = 0; parent = None }) c.loop-at-test.true)) c.loop-at.invariant.rests c.in_err-add_instance.ensures.adds)

pub loop-at-preserved : goal.loop-at-preserved
loop-at-preserved c = record {
  known = c.in_ok-add_instance.ensures.known;
  stand = c.in_ok-add_instance.ensures.stand;
  rests =
      rests_more c.args.memo.now.nodes c.loop-at.memo.nodes c.add_instance.new.memo.nodes c.args.items.now c.loop-at.items c.add_instance.new.items _ _ _ (items_below c.args.scope.now.program (c.loop-at.at + 1) (drop (c.loop-at.at + 1) c.args.tree.now))
      (ap (items_below c.args.scope.now.program c.loop-at.at) (drop_more c.args.tree.now c.loop-at.at (record { of_module = 0; parent = None }) c.loop-at-test.true)) c.loop-at.invariant.rests c.in_ok-add_instance.ensures.adds;
}

pub returns-clause-adds : goal.returns-clause-adds
returns-clause-adds c =
    rests_end c.args.memo.now.nodes c.loop-at.memo.nodes c.args.items.now c.loop-at.items (items_below c.args.scope.now.program 0 c.args.tree.now) _
    (ap (items_below c.args.scope.now.program c.loop-at.at) (drop_all c.loop-at.at c.args.tree.now (omega (arith, c.loop-at-test.false)))) c.loop-at.invariant.rests
