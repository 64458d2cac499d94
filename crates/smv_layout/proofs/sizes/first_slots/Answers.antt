-- One variable more.
use Rattle.std.proofs.Common.{◌≡◌, ◌+◌, ◌++◌, [], ◌∷◌, ℕ, List, map, arith, sym, ap, ◌∙◌}
use Rattle.std.specs.List.{range_with_len}
use Rattle.std.proofs.lemmas.List.FromFn.{map-range_with_len_more}
use Rattle.smv_declared.specs.Types.{size_of}
use Rattle.smv_slots.specs.Slots.{first_slot}
use Rattle.smv_layout.proofs.Indexing.{first_slot_next}
use Rattle.smv_layout.proofs.sizes.first_slots.Goals as goal

pub loop-variable-preserved : goal.loop-variable-preserved
loop-variable-preserved c =
    let vs = c.args.variables.now in
    let i = c.loop-variable.variable-index in
    record {
      firsts =
          c.in_ok-push.ensures.items
          ∙ ap (λ (ns : List ℕ). ns ++ c.loop-variable.next ∷ []) c.loop-variable.invariant.firsts
          ∙ ap (λ (n : ℕ). map (first_slot vs) (range_with_len 0 i) ++ n ∷ []) c.loop-variable.invariant.next
          ∙ sym (map-range_with_len_more (first_slot vs) 0 i i (omega arith));
      next =
          c.in_ok-next.ensures
          ∙ ap (λ (n : ℕ). n + c.in_ok-size.size) c.loop-variable.invariant.next
          ∙ ap (λ (n : ℕ). first_slot vs i + n) (c.in_ok-size.ensures ∙ ap size_of c.as_slice.ensures)
          ∙ first_slot_next vs i c.variable-item.result c.loop-variable-test.true c.variable-item.is;
    }
