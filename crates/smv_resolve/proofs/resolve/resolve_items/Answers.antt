use Rattle.std.proofs.lemmas.Result.{err_from_is_err_and}
use Rattle.smv_resolve.proofs.Whole.{none_stand, all_added, all_halts}
use Rattle.smv_resolve.proofs.resolve.resolve_items.Goals as goal

pub add_instances-requires-clause-stand : goal.add_instances-requires-clause-stand
add_instances-requires-clause-stand c = none_stand c.empty_memo-memo.result.nodes c.new-items.result c.new-items.ensures

pub returns-in_err-add_instances : goal.returns-in_err-add_instances
returns-in_err-add_instances c =
    let p = err_from_is_err_and c.from_residual.result c.from_residual.ensures.1 in
    rw (p.1, p.2)
    (all_halts c.args.scope.now.program c.args.scope.now.tree c.as_slice.result.now c.empty_memo-memo.result.nodes c.add_instances.new.memo.nodes c.new-items.result c.add_instances.new.items _
    c.as_slice.ensures c.args.scope.now.unfolded c.in_err-add_instances.ensures.adds)

pub returns : goal.returns
returns c =
    all_added c.args.scope.now.program c.args.scope.now.tree c.as_slice.result.now c.empty_memo-memo.result.nodes c.add_instances.new.memo.nodes c.new-items.result c.add_instances.new.items
    c.as_slice.ensures c.args.scope.now.unfolded c.new-items.ensures c.in_ok-add_instances.ensures.adds
