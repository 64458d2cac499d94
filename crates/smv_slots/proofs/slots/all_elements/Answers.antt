use Rattle.std.proofs.Common.{◌∙◌, ap, inl, inr}
use Rattle.smv_declared.specs.Types.{size_of}
use Rattle.smv_slots.proofs.Elements.{pairs_more, no_pair_left, no_type_left}
use Rattle.smv_slots.proofs.slots.all_elements.Goals as goal

pub loop-holder-preserved : goal.loop-holder-preserved
loop-holder-preserved c =
    pairs_more c.loop-holder.slots c.push_elements.new.slots c.in_ok-size.size c.in-Some.holder.now c.in-Some.declared.now _ _ _ _ c.in-Some.ensures.steps.0 c.in-Some.ensures.steps.1
    (c.in_ok-size.ensures ∙ ap size_of c.as_slice.ensures) c.in_ok-push_elements.ensures
    ∙ c.loop-holder.invariant

pub returns : goal.returns
returns c =
    let all = c.loop-holder.slots in
    let holders = c.loop-holder.holder-iterator.a.rest.now in
    let types = c.loop-holder.holder-iterator.b.rest.now in
    elim (c.in-None.ensures.steps) [
      | inl none ↦ no_pair_left all holders types none.1.0 ∙ c.loop-holder.invariant
      | inr none ↦ no_type_left all holders types none.1.0 ∙ c.loop-holder.invariant
    ]
