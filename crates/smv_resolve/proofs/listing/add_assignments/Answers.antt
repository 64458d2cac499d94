use Rattle.std.proofs.Common.{◌+◌, [], ◌∷◌, arith, drop, ap, map}
use Rattle.std.proofs.lemmas.Result.{err_from_is_err_and}
use Rattle.std.proofs.lemmas.List.{drop_all}
use Rattle.smv_resolve.specs.Items.{resolved_assignment}
use Rattle.smv_scope.proofs.Indexing.{drop_next}
use Rattle.smv_resolve.proofs.Adding.{rests_start, rests_more, rests_end, rests_halt}
use Rattle.smv_resolve.proofs.listing.add_assignments.Goals as goal

pub loop-assignment-init : goal.loop-assignment-init
loop-assignment-init c = record { known = c.requires.known; stand = c.requires.stand; rests = rests_start c.args.memo.now.nodes c.args.items.now _ }

pub returns-in_err-add_assignment-clause-adds : goal.returns-in_err-add_assignment-clause-adds
returns-in_err-add_assignment-clause-adds c =
    let p = err_from_is_err_and c.from_residual.result c.from_residual.ensures.1 in
    rw (p.1, p.2)
    (rests_halt c.args.memo.now.nodes c.loop-assignment.memo.nodes c.add_assignment.new.memo.nodes c.add_assignment.new.memo.nodes c.args.items.now c.loop-assignment.items c.add_assignment.new.items c.add_assignment.new.items
    (map (resolved_assignment c.args.scope.now.program c.args.at) c.args.assignments.now) _ (resolved_assignment c.args.scope.now.program c.args.at c.assignment-item.result ∷ []) (map (resolved_assignment c.args.scope.now.program c.args.at) (drop (c.loop-assignment.assignment-index + 1) c.args.assignments.now)) _
    (ap (map (resolved_assignment c.args.scope.now.program c.args.at)) (drop_next c.args.assignments.now c.loop-assignment.assignment-index c.assignment-item.result c.loop-assignment-test.true c.assignment-item.is)) c.loop-assignment.invariant.rests c.in_err-add_assignment.ensures.adds)

pub loop-assignment-preserved : goal.loop-assignment-preserved
loop-assignment-preserved c = record {
  known = c.in_ok-add_assignment.ensures.known;
  stand = c.in_ok-add_assignment.ensures.stand;
  rests =
      rests_more c.args.memo.now.nodes c.loop-assignment.memo.nodes c.add_assignment.new.memo.nodes c.args.items.now c.loop-assignment.items c.add_assignment.new.items _ _ _ (map (resolved_assignment c.args.scope.now.program c.args.at) (drop (c.loop-assignment.assignment-index + 1) c.args.assignments.now))
      (ap (map (resolved_assignment c.args.scope.now.program c.args.at)) (drop_next c.args.assignments.now c.loop-assignment.assignment-index c.assignment-item.result c.loop-assignment-test.true c.assignment-item.is)) c.loop-assignment.invariant.rests c.in_ok-add_assignment.ensures.adds;
}

pub returns-clause-adds : goal.returns-clause-adds
returns-clause-adds c =
    rests_end c.args.memo.now.nodes c.loop-assignment.memo.nodes c.args.items.now c.loop-assignment.items (map (resolved_assignment c.args.scope.now.program c.args.at) c.args.assignments.now) _
    (ap (map (resolved_assignment c.args.scope.now.program c.args.at)) (drop_all c.loop-assignment.assignment-index c.args.assignments.now (omega (arith, c.loop-assignment-test.false)))) c.loop-assignment.invariant.rests
