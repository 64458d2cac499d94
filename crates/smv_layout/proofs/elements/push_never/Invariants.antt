-- The turns so far.
use Rattle.std.proofs.Common.{take}
use Rattle.smv_resolve.specs.Finding.{Grows}
use Rattle.smv_layout.specs.Arrays.{never}
use Rattle.smv_layout.specs.Nodes.{AreNodes}
use Rattle.smv_layout.proofs.elements.push_never.Given as goal

abbrev pub invariant-loop-v : goal.invariant-loop-v
invariant-loop-v l = record {
  grows : Grows l.initial.nodes l.nodes;
  turns : AreNodes l.nodes l.turns.items (never l.place (take l.v-index l.v-items));
}
