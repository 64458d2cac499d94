use Rattle.std.proofs.Common.{◌≤◌, ◌+◌, ◌*◌, List}
use Rattle.smv_meaning.specs.Lassos.{Holds}
use Rattle.ltl_meaning.specs.Truth.{binary_truth}
use Rattle.smv_value.specs.declared.value.Value.{Value}
use Rattle.smv_slots.specs.declared.slot.Slot.{Slot}
use Rattle.smv_formulas.specs.Known.{IsSound, KeepsKnown}
use Rattle.smv_formulas.specs.Trees.{Grows, part_below}
use Rattle.smv_formulas.proofs.Chains.{Continues}
use Rattle.smv_formulas.proofs.trees.+trees.Given as goal

abbrev pub decreases-tree : goal.decreases-tree
decreases-tree l = 3 * l.limit

abbrev pub decreases-joined : goal.decreases-joined
decreases-joined l = 3 * l.limit + 2

abbrev pub decreases-chain : goal.decreases-chain
decreases-chain l = 3 * l.limit + 1

abbrev pub decreases-chain-loop-next : goal.decreases-chain-loop-next
decreases-chain-loop-next l = l.before

-- the links so far, from the last one on
abbrev pub invariant-chain-loop-next : goal.invariant-chain-loop-next
invariant-chain-loop-next l = record {
  below : l.before ≤ l.limit;
  grows : Grows l.fn.atoms.items l.atoms.items;
  goes : Continues l.nodes l.atoms.items l.links.items (part_below l.nodes l.before l.left)
      (λ p w. binary_truth l.fn.joint.operator (Holds p w (part_below l.nodes l.limit l.fn.joint.left)) (Holds p w (part_below l.nodes l.limit l.fn.joint.right)));
  known : KeepsKnown l.nodes l.fn.atoms.items l.atoms.items
      (λ slots s u. IsSound slots s u (part_below l.nodes l.limit l.fn.joint.left) × IsSound slots s u (part_below l.nodes l.limit l.fn.joint.right));
  sound : (slots : List Slot) (s u : List Value)
      → IsSound slots s u (part_below l.nodes l.limit l.fn.joint.left) × IsSound slots s u (part_below l.nodes l.limit l.fn.joint.right)
      → IsSound slots s u (part_below l.nodes l.before l.left);
}
