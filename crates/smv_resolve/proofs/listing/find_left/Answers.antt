use Rattle.std.proofs.Common.{ℕ, Err, subst}
use Rattle.smv_scope.specs.Lookup.{depth_limit}
use Rattle.smv_resolve.specs.Items.{left_levels, resolved_left}
use Rattle.smv_resolve.specs.Resolved.{levelled}
use Rattle.smv_resolve.specs.Listing.{IsRoot}
use Rattle.smv_resolve.specs.StuckParts.{FindsOrTells, stuck_part}
use Rattle.smv_resolve.proofs.StuckParts.{root_told}
use Rattle.smv_resolve.proofs.listing.find_left.Goals as goal

pub returns-in-Ok-clause-finds : goal.returns-in-Ok-clause-finds
returns-in-Ok-clause-finds c =
    let P : ℕ → Type 0 = λ levels. IsRoot c.find_within.new.memo.nodes (levelled c.args.scope.now.program depth_limit c.args.at c.args.e.now levels) c.in-Ok.node in
    subst P c.left_levels.ensures.levels (c.in-Ok.ensures.finds depth_limit c.left_levels.ensures.few)

pub returns-in-Err-clause-finds : goal.returns-in-Err-clause-finds
returns-in-Err-clause-finds c =
    let p = c.args.scope.now.program in
    let P : ℕ → Type 0 = λ levels.
    FindsOrTells c.find_within.new.memo.nodes (levelled p depth_limit c.args.at c.args.e.now levels) (stuck_part p depth_limit c.args.at c.args.e.now levels) (Err c.in-Err.stop) in
    let left = subst P c.left_levels.ensures.levels (c.in-Err.ensures.finds depth_limit c.left_levels.ensures.few) in
    rw (c.told_at.ensures) (root_told c.find_within.new.memo.nodes (resolved_left p c.args.at c.args.kind c.args.e.now) (stuck_part p depth_limit c.args.at c.args.e.now (left_levels c.args.kind)) c.args.place c.in-Err.stop left)
