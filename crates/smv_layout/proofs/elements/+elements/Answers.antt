-- An element for each index, and a dimension further.
use Rattle.std.proofs.Common.{◌≡◌, ◌++◌, [], ◌∷◌, ◌+◌, ◌*◌, ◌∙◌, List, ℕ, ap, arith, map, subst, sym}
use Rattle.smv_resolve.proofs.Growing.{Grows-two}
use Rattle.smv_declared.specs.Types.{size_of}
use Rattle.smv_layout.specs.Arrays.{Subscript, element, turns_to}
use Rattle.smv_layout.specs.Nodes.{AreNodes, subscript_by}
use Rattle.smv_layout.proofs.Places.{IsNode_along, is_index_by, turns_more}
use Rattle.smv_layout.proofs.Standing.{AreNodes_grown, AreNodes_nil, AreNodes_one, IsNode_grown, IsNode_same, subscripts_first, subscripts_kept, subscripts_rest}
use Rattle.smv_layout.proofs.elements.+elements.Goals as goal

pub push_choices-loop-k-init : goal.push_choices-loop-k-init
push_choices-loop-k-init t c = record {
  grows = c.in_ok-index.ensures.grows;
  index = c.in_ok-index.ensures.node _ (AreNodes_one c.args.nodes.now c.args.subscript.node _ (IsNode_same c.args.nodes.now c.args.subscript.node c.requires.index));
  turns = subst (λ (ks : List ℕ). AreNodes c.push_apply.new.nodes ks []) (sym c.new-turns.ensures.items) (AreNodes_nil c.push_apply.new.nodes);
}

pub push_choices-loop-k-preserved : goal.push_choices-loop-k-preserved
push_choices-loop-k-preserved t c =
    let both = Grows-two c.in_ok-condition.ensures.grows c.in_ok-branch.ensures.grows in
    let before = Grows-two c.loop-k.invariant.grows c.in_ok-condition.ensures.grows in
    record {
      grows = Grows-two c.loop-k.invariant.grows both;
      index = IsNode_grown c.loop-k.nodes c.push_element.new.nodes c.in_ok-index.index _ both c.loop-k.invariant.index;
      turns =
          turns_more c.push_element.new.nodes c.loop-k.turns.items c.push-in-loop-k.new.self.items (subscript_by c.args.nodes.now c.args.subscript) c.args.dimension
          (λ k. element c.args.t.now c.args.place c.args.below.now (map (subscript_by c.args.nodes.now) c.args.further.now) (c.args.first + k * size_of c.args.below.now)) c.loop-k.k c.in_ok-condition.condition c.in_ok-branch.branch
          (AreNodes_grown c.loop-k.nodes c.push_element.new.nodes c.loop-k.turns.items _ both c.loop-k.invariant.turns)
          (IsNode_grown c.push_equal.new.nodes c.push_element.new.nodes c.in_ok-condition.condition _ c.in_ok-branch.ensures.grows
          (is_index_by c.push_equal.new.nodes c.in_ok-condition.condition (subscript_by c.args.nodes.now c.args.subscript) c.in_ok-v.v _ c.in_ok-v.ensures (c.in_ok-condition.ensures.node _ c.loop-k.invariant.index)))
          (IsNode_along c.push_element.new.nodes c.in_ok-branch.branch _ _
          (ap (λ (xs : List Subscript). element c.args.t.now c.args.place c.args.below.now xs c.in_ok-slot.slot) (subscripts_kept c.args.nodes.now c.push_equal.new.nodes before c.args.further.now c.requires.further)
          ∙ ap (element c.args.t.now c.args.place c.args.below.now (map (subscript_by c.args.nodes.now) c.args.further.now)) (c.in_ok-slot.ensures ∙ ap (λ (n : ℕ). c.args.first + c.loop-k.k * n) c.in_ok-size.ensures))
          c.in_ok-branch.ensures.node)
          (c.in_ok-push-2.ensures.items ∙ ap (λ (ns : List ℕ). ns ++ c.in_ok-branch.branch ∷ []) c.in_ok-push.ensures.items);
    }

pub push_choices-returns-clause-node : goal.push_choices-returns-clause-node
push_choices-returns-clause-node t c =
    let x = subscript_by c.args.nodes.now c.args.subscript in
    let branch = λ (k : ℕ). element c.args.t.now c.args.place c.args.below.now (map (subscript_by c.args.nodes.now) c.args.further.now) (c.args.first + k * size_of c.args.below.now) in
    let done : c.loop-k.k ≡ c.args.dimension.count = omega (arith, c.loop-k-test.false, c.loop-k.auto.k-end) in
    c.in_ok-n.ensures.node _
    (subst (λ (m : ℕ). AreNodes c.loop-k.nodes c.as_slice.result.now (turns_to x c.args.dimension branch m)) done
    (subst (λ (ks : List ℕ). AreNodes c.loop-k.nodes ks (turns_to x c.args.dimension branch c.loop-k.k)) (sym c.as_slice.ensures.value) c.loop-k.invariant.turns))

pub push_element-push_at-requires : goal.push_element-push_at-requires
push_element-push_at-requires t c =
    let e = c.in-Some.ensures.cases in
    let f = c.in-Some-split_first.ensures.cases in (
      omega (arith, e.1),
      (
        subscripts_first c.args.nodes.now c.args.subscripts.now c.in-Some-split_first.subscript.now c.in-Some-split_first.further.now f.0 c.requires,
        subscripts_rest c.args.nodes.now c.args.subscripts.now c.in-Some-split_first.subscript.now c.in-Some-split_first.further.now f.0 c.requires,
      ),
    )
