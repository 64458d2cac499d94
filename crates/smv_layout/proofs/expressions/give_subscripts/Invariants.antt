-- The indices so far.
use Rattle.std.proofs.Common.{map, take}
use Rattle.smv_resolve.specs.Finding.{Grows}
use Rattle.smv_layout.specs.Layout.{subscript_given}
use Rattle.smv_layout.specs.Nodes.{AreSubscripts, subscript_by}
use Rattle.smv_layout.proofs.expressions.give_subscripts.Given as goal

abbrev pub invariant-loop-x : goal.invariant-loop-x
invariant-loop-x l = record {
  grows : Grows l.initial.nodes l.nodes;
  given : AreSubscripts l.nodes l.given (map (subscript_given l.place) (map (subscript_by l.initial.nodes) (take l.x-index l.subscripts)));
}
