use Rattle.std.proofs.Common.{◌<◌, ◌++◌, ◌∷◌, [], ◌∙◌, take, length, ap, sym}
use Rattle.std.proofs.lemmas.List.{take_more}
use Rattle.frame_core.specs.declared.parts.Parent.{Parent}
use Rattle.frame_query.proofs.Tried.{parent_same}
use Rattle.frame_query.proofs.attempting.copy_parents.Goals as goal

pub parents-preserved : goal.parents-preserved
parents-preserved c =
    let parents = c.args.parents.now in
    let i = c.parents.p-index in
    let lt : i < length parents = c.parents-test.true in
    let here : Parent = c.p-item.result in
    let new : Parent = record { number = here.number; clause = c.in_ok-clause.clause } in
    let same = parent_same here c.in_ok-clause.clause (c.in_ok-clause.ensures ∙ c.as_slice.ensures) in
    c.in_ok-push.ensures.items ∙ ap (λ xs. xs ++ new ∷ []) c.parents.invariant ∙ ap (λ p. take i parents ++ p ∷ []) same ∙ ap (λ p. take i parents ++ p ∷ []) c.p-item.is ∙ sym (take_more parents i c.p-item.result lt)
