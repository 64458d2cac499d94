-- The items that are specifications are so as resolved items.
use Rattle.std.proofs.Common.{◌≡◌, ◌∙◌, ◌≤◌, All, true, length, map, take, ap, sym, subst, arith}
use Rattle.std.specs.List.{filter}
use Rattle.std.proofs.lemmas.List.{take_all}
use Rattle.std.proofs.lemmas.List.Elements.{filter_passes}
use Rattle.smv_resolve.specs.declared.item.Item.{Item}
use Rattle.smv_resolve.specs.Items.{ResolvedItem, item_by}
use Rattle.smv_meaning.specs.Runs.{is_claim}
use Rattle.smv_meaning.proofs.Items.{claims}
use Rattle.smv_meaning.proofs.readers.specifications.Goals as goal

pub returns-clause-resolved : goal.returns-clause-resolved
returns-clause-resolved c =
    let items = c.as_slice-item-items.result.now in
    let all : length items ≤ c.loop-item.item-index = omega arith in
    let found : c.from_vec.result ≡ filter (λ (x : Item). is_claim x.kind) c.args.typed.now.items =
    c.from_vec.ensures ∙ c.loop-item.invariant
    ∙ ap (filter (λ (x : Item). is_claim x.kind)) (take_all c.loop-item.item-index items all ∙ c.as_slice-item-items.ensures) in
    ap (map (item_by c.args.typed.now.nodes)) found
    ∙ claims c.args.typed.now.nodes c.args.typed.now.items
    ∙ ap (filter (λ (x : ResolvedItem). is_claim x.kind)) c.args.typed.now.resolved

pub returns-clause-claims : goal.returns-clause-claims
returns-clause-claims c =
    let seen = take c.loop-item.item-index c.as_slice-item-items.result.now in
    let found : c.from_vec.result ≡ filter (λ (x : Item). is_claim x.kind) seen = c.from_vec.ensures ∙ c.loop-item.invariant in
    subst (All (λ (x : Item). is_claim x.kind ≡ true)) (sym found) (filter_passes (λ (x : Item). is_claim x.kind) seen)
