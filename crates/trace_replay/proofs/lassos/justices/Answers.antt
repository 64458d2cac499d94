-- The items that are JUSTICE constraints are so as resolved items.
use Rattle.std.proofs.Common.{◌≡◌, ◌∙◌, ◌≤◌, length, map, ap, arith}
use Rattle.std.specs.List.{filter}
use Rattle.std.proofs.lemmas.List.{take_all}
use Rattle.smv_resolve.specs.declared.item.Item.{Item}
use Rattle.smv_resolve.specs.Items.{ResolvedItem, item_by}
use Rattle.trace_replay.specs.Lassos.{is_justice}
use Rattle.trace_replay.proofs.OfLassos.{justices_kept}
use Rattle.trace_replay.proofs.lassos.justices.Goals as goal

pub returns : goal.returns
returns c =
    let items = c.as_slice-item-items.result.now in
    let all : length items ≤ c.loop-item.item-index = omega arith in
    let found : c.from_vec.result ≡ filter (λ (x : Item). is_justice x.kind) c.args.typed.now.items =
    c.from_vec.ensures ∙ c.loop-item.invariant
    ∙ ap (filter (λ (x : Item). is_justice x.kind)) (take_all c.loop-item.item-index items all ∙ c.as_slice-item-items.ensures) in
    ap (map (item_by c.args.typed.now.nodes)) found
    ∙ justices_kept c.args.typed.now.nodes c.args.typed.now.items
    ∙ ap (filter (λ (x : ResolvedItem). is_justice x.kind)) c.args.typed.now.resolved
