use Rattle.std.proofs.Common.{◌++◌, ◌∷◌, [], map, ap, sym, ◌∙◌, append_assoc, arith}
use Rattle.std.specs.List.{range_with_len}
use Rattle.std.proofs.lemmas.List.FromFn.{map-range_with_len_more}
use Rattle.smv_slots.specs.Slots.{element_at}
use Rattle.smv_slots.proofs.slots.push_elements.Goals as goal

pub loop-element-preserved : goal.loop-element-preserved
loop-element-preserved c =
    let one = element_at c.args.holder in
    c.in_ok-push.ensures.ok
    ∙ ap (λ xs. xs ++ one c.loop-element.element ∷ []) c.loop-element.invariant
    ∙ append_assoc c.args.slots.now (map one (range_with_len 0 c.loop-element.element)) (one c.loop-element.element ∷ [])
    ∙ ap (λ xs. c.args.slots.now ++ xs) (sym (map-range_with_len_more one 0 c.loop-element.element c.loop-element.element (omega arith)))
