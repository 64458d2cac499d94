use Rattle.std.proofs.Common.{◌≡◌, ◌++◌, [], List, ℕ, true, false, length, filter, map, ap, subst, ◌∙◌}
use Rattle.smv_resolve.specs.declared.node.ExprNode.{ExprNode}
use Rattle.smv_resolve.specs.Resolved.{part_of}
use Rattle.smv_slots.specs.Slots.{slots_of}
use Rattle.smv_flat.specs.Assignments.{slot_numbers}
use Rattle.fault_texts.specs.Marks.{TellsSlots, mark}
use Rattle.fault_texts.specs.Valuations.{slots_in, told}
use Rattle.fault_texts.proofs.Listing.{slots_told}
use Rattle.fault_texts.proofs.valuations.told_all.Goals as goal

pub returns : goal.returns
returns c =
    let p = c.args.typed.now.scope.program in
    let r = part_of c.args.typed.now.nodes c.args.value in
    let now : ℕ → List ℕ = told p false c.args.s.now c.args.u.now in
    let next : ℕ → List ℕ = told p true c.args.next.now [] in
    let size : c.len-slots.result ≡ length (slots_of p) = c.len-slots.ensures ∙ ap length c.args.typed.now.laid_out in
    let occurs_now = subst (λ (nodes : List ExprNode). TellsSlots false (part_of nodes c.args.value) c.len-slots.result c.in_ok-found.found.now.items) c.as_slice.ensures c.in_ok-found.ensures.now in
    let occurs_next = subst (λ (nodes : List ExprNode). TellsSlots true (part_of nodes c.args.value) c.len-slots.result c.in_ok-found.found.next.items) c.as_slice.ensures c.in_ok-found.ensures.next in
    let first : c.push_told.new.texts.items ≡ map now (slots_in p false r) =
    c.in_ok-push_told.ensures ∙ ap (λ ts. ts ++ map now (filter (mark c.deref.result.now) (slot_numbers p))) c.new-texts.ensures.items
    ∙ ap (λ ms. map now (filter (mark ms) (slot_numbers p))) c.deref.ensures.value
    ∙ ap (map now) (slots_told p false r c.in_ok-found.found.now.items c.len-slots.result size occurs_now) in
    c.in_ok-push_told-2.ensures
    ∙ ap (λ ms. c.push_told.new.texts.items ++ map next (filter (mark ms) (slot_numbers p))) c.deref-2.ensures.value
    ∙ ap (λ ns. c.push_told.new.texts.items ++ map next ns) (slots_told p true r c.in_ok-found.found.next.items c.len-slots.result size occurs_next)
    ∙ ap (λ ts. ts ++ map next (slots_in p true r)) first
