use Rattle.smv_resolve.specs.Resolved.{resolved}
use Rattle.smv_resolve.specs.StuckParts.{first_stuck_part}
use Rattle.smv_resolve.proofs.StuckParts.{root_told}
use Rattle.smv_resolve.proofs.listing.find_root.Goals as goal

pub returns-in-Err-clause-finds : goal.returns-in-Err-clause-finds
returns-in-Err-clause-finds c =
    rw (c.told_at.ensures)
    (root_told c.find_expression.new.memo.nodes (resolved c.args.scope.now.program c.args.at c.args.e.now) (first_stuck_part c.args.scope.now.program c.args.at c.args.e.now) c.args.place c.in-Err.stop
    c.in-Err.ensures.finds)
