-- The numbers are those of the program.
use Rattle.std.proofs.Common.{◌≡◌, ◌∙◌, ◌++◌, ℕ, List, ap, ap₂, codes, length, filter, map, not}
use Rattle.std.specs.Fmt.{decimal}
use Rattle.smv_tree.specs.Texts.{line_end}
use Rattle.smv_resolve.specs.Items.{ResolvedItem, item_by}
use Rattle.smv_slots.specs.Slots.{slots_of}
use Rattle.smv_meaning.specs.Runs.{is_claim}
use Rattle.smv_cli.specs.Listing.{listed_items}
use Rattle.smv_cli.proofs.listing.sum_up.Goals as goal

pub returns : goal.returns
returns c =
    let typed = c.args.typed.now in
    let p = typed.scope.program in
    let slots : c.len.result ≡ length (slots_of p) = c.len.ensures ∙ ap length typed.laid_out in
    let counted : c.count_listed.result ≡ length (listed_items p) =
    c.count_listed.ensures typed.nodes
    ∙ ap (λ (items : List ResolvedItem). length (filter (λ (x : ResolvedItem). not (is_claim x.kind)) items)) (ap (map (item_by typed.nodes)) c.as_slice.ensures ∙ typed.resolved) in
    ap₂ (λ (n m : ℕ). codes "-- model slots " ++ decimal n ++ codes " items " ++ decimal m ++ line_end) slots counted
