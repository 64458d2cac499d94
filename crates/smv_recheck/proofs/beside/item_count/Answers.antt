use Rattle.std.proofs.Common.{◌∙◌, List, ap, not}
use Rattle.std.specs.List.{count_by}
use Rattle.smv_resolve.specs.declared.item.Item.{Item}
use Rattle.smv_meaning.specs.Runs.{is_claim}
use Rattle.smv_recheck.proofs.Stopping.{others_counted}
use Rattle.smv_recheck.proofs.beside.item_count.Goals as goal

pub returns : goal.returns
returns c =
    let typed = c.args.typed.now in
    c.others.ensures ∙ ap (λ (items : List Item). count_by (λ (x : Item). not (is_claim x.kind)) items) c.as_slice.ensures
    ∙ others_counted typed.scope.program typed.nodes typed.items typed.resolved
