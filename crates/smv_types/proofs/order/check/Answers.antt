-- What breaks no rule of kinds is known everywhere; the types of slots are right, and the items are those of the
-- program.
use Rattle.std.proofs.Common.{◌∙◌, map}
use Rattle.smv_resolve.specs.Items.{item_by}
use Rattle.smv_slots.proofs.Kept.{types_kept}
use Rattle.smv_types.proofs.Known.{all_known}
use Rattle.smv_types.proofs.Laying.{first_free, laid_items}
use Rattle.smv_types.proofs.order.check.Goals as goal

pub no_misuse-requires-clause-items : goal.no_misuse-requires-clause-items
no_misuse-requires-clause-items c =
    laid_items c.args.scope.program c.as_slice-3.result.now (map (item_by c.args.resolution.now.nodes) c.args.resolution.now.items)
    (map (item_by c.in_ok-laid.laid.nodes) c.in_ok-laid.laid.items)
    (c.as_slice-3.ensures ∙ c.in_ok-variables.ensures.types) c.requires c.in_ok-laid.ensures

pub invariant_of-result-clause-known : goal.invariant_of-result-clause-known
invariant_of-result-clause-known c = all_known c.args.scope.program (first_free _ _ c.in_ok-variables.ensures.judged) c.in_ok-no_misuse.ensures

pub invariant_of-result-clause-right_types : goal.invariant_of-result-clause-right_types
invariant_of-result-clause-right_types c = types_kept c.args.scope.program (first_free _ _ c.in_ok-variables.ensures.judged)

pub invariant_of-result-clause-resolved : goal.invariant_of-result-clause-resolved
invariant_of-result-clause-resolved c =
    laid_items c.args.scope.program c.as_slice-3.result.now (map (item_by c.args.resolution.now.nodes) c.args.resolution.now.items)
    (map (item_by c.in_ok-laid.laid.nodes) c.in_ok-laid.laid.items)
    (c.as_slice-3.ensures ∙ c.in_ok-variables.ensures.types) c.requires c.in_ok-laid.ensures
