-- The others, and then the claims.
use Rattle.std.proofs.Common.{◌∙◌, not, map, ap}
use Rattle.std.specs.List.{filter}
use Rattle.smv_resolve.specs.declared.item.Item.{Item}
use Rattle.smv_resolve.specs.Items.{item_by}
use Rattle.smv_meaning.specs.Runs.{is_claim}
use Rattle.bit_faults.proofs.Judging.{judged_by}
use Rattle.bit_faults.proofs.judged.judged_items.Goals as goal

pub returns : goal.returns
returns c =
    let typed = c.args.typed.now in
    ap (map (item_by typed.nodes)) c.in_ok-append.ensures
    ∙ judged_by typed.scope.program typed.nodes typed.items c.in_ok-judged.judged c.in_ok-claims.claims typed.resolved
    (c.in_ok-judged.ensures ∙ ap (filter (λ (x : Item). not (is_claim x.kind))) c.as_slice.ensures) c.in_ok-claims.ensures.resolved
