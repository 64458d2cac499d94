-- Each call goes a dimension further.
use Rattle.std.proofs.Common.{◌+◌, ◌*◌, [], ◌∷◌, length, map}
use Rattle.smv_resolve.specs.Resolved.{Resolved, operands_of}
use Rattle.smv_resolve.specs.Finding.{Grows}
use Rattle.smv_value.specs.declared.operator.Operator.TheVariants as operator
use Rattle.smv_declared.specs.Types.{size_of}
use Rattle.smv_layout.specs.Arrays.{element, turns_to}
use Rattle.smv_layout.specs.Nodes.{AreNodes, IsNode, subscript_by}
use Rattle.smv_layout.proofs.elements.+elements.Given as goal

abbrev pub decreases-push_element : goal.decreases-push_element
decreases-push_element l = 3 * length l.dimensions.now

abbrev pub decreases-push_at : goal.decreases-push_at
decreases-push_at l = 3 * length l.below.now + 2

abbrev pub decreases-push_choices : goal.decreases-push_choices
decreases-push_choices l = 3 * length l.below.now + 1

-- the conditions and elements so far
abbrev pub invariant-push_choices-loop-k : goal.invariant-push_choices-loop-k
invariant-push_choices-loop-k l = record {
  grows : Grows l.fn.nodes l.nodes;
  index : IsNode l.nodes l.index (Resolved.Apply l.subscript.place operator.Subscript (operands_of ((subscript_by l.fn.nodes l.subscript).index ∷ [])));
  turns : AreNodes l.nodes l.turns.items (turns_to (subscript_by l.fn.nodes l.subscript) l.dimension (λ k. element l.t l.place l.below (map (subscript_by l.fn.nodes) l.further) (l.first + k * size_of l.below)) l.k);
}
