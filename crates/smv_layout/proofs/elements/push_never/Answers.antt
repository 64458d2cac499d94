-- One value more, and no choice among all.
use Rattle.std.proofs.Common.{◌++◌, [], ◌∷◌, ◌∙◌, List, ℕ, false, get_or, take, ap, arith, subst, sym}
use Rattle.std.proofs.lemmas.List.{get_or_default, take_all}
use Rattle.smv_value.specs.declared.value.Value.{Value}
use Rattle.smv_value.specs.declared.value.Value.TheVariants as value
use Rattle.smv_resolve.proofs.Growing.{Grows-two}
use Rattle.smv_layout.specs.Arrays.{choice, never}
use Rattle.smv_layout.specs.Nodes.{AreNodes}
use Rattle.smv_layout.proofs.Places.{IsNode_along, never_more}
use Rattle.smv_layout.proofs.Standing.{AreNodes_grown, IsNode_grown}
use Rattle.smv_layout.proofs.elements.push_never.Goals as goal

pub loop-v-preserved : goal.loop-v-preserved
loop-v-preserved c = record {
  grows = Grows-two c.loop-v.invariant.grows (Grows-two c.in_ok-condition.ensures.grows c.in_ok-branch.ensures.grows);
  turns =
      never_more c.push-in-loop-v.new.nodes c.loop-v.turns.items c.push-in-loop-v-3.new.self.items c.args.place c.as_slice-v-items.result.now c.loop-v.v-index _ c.in_ok-condition.condition c.in_ok-branch.branch
      c.loop-v-test.true
      (get_or_default c.as_slice-v-items.result.now c.loop-v.v-index (value.Bool false) (get_or c.as_slice-v-items.result.now c.loop-v.v-index (value.Bool false)) c.loop-v-test.true)
      (AreNodes_grown _ _ _ _ (Grows-two c.in_ok-condition.ensures.grows c.in_ok-branch.ensures.grows) c.loop-v.invariant.turns)
      (IsNode_grown _ _ _ _ c.in_ok-branch.ensures.grows c.in_ok-condition.ensures.node) c.in_ok-branch.ensures.node
      (c.in_ok-push-2.ensures.items ∙ ap (λ ns. ns ++ c.in_ok-branch.branch ∷ []) c.in_ok-push.ensures.items);
}

pub returns-clause-node : goal.returns-clause-node
returns-clause-node c =
    IsNode_along c.push_choice.new.nodes c.in_ok-n.n _ _
    (ap (λ (vs : List Value). choice c.args.place (never c.args.place vs)) (take_all c.loop-v.v-index c.as_slice-v-items.result.now (omega (arith, c.loop-v-test.false)) ∙ c.as_slice-v-items.ensures.value ∙ c.in_ok-values.ensures))
    (c.in_ok-n.ensures.node _ (subst (λ (ns : List ℕ). AreNodes c.loop-v.nodes ns (never c.args.place (take c.loop-v.v-index c.as_slice-v-items.result.now))) (sym c.as_slice.ensures.value) c.loop-v.invariant.turns))
