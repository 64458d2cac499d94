-- The array with its indices as they were given.
use Rattle.std.proofs.Common.{List, ap, map, subst}
use Rattle.smv_layout.specs.Arrays.{Subscript}
use Rattle.smv_layout.specs.Layout.{subscript_given}
use Rattle.smv_layout.specs.Nodes.{AreSubscripts, subscript_by}
use Rattle.smv_layout.proofs.Standing.{IsNode_grown, array_laid, subscripts_kept}
use Rattle.smv_layout.proofs.expressions.push_given.Goals as goal

pub returns-clause-laid : goal.returns-clause-laid
returns-clause-laid c =
    array_laid c.give_subscripts.new.nodes c.args.array.now.variable c.args.array.now.place c.in_ok-subscripts.subscripts c.in_ok-whole.whole _ _
    (subst (λ (ys : List Subscript). AreSubscripts c.give_subscripts.new.nodes c.in_ok-subscripts.subscripts (map (subscript_given c.args.place) ys))
    (subscripts_kept c.args.nodes.now c.push.new.nodes c.in_ok-whole.ensures.grows c.args.array.now.subscripts c.requires.1)
    (rw c.as_slice.ensures at c.in_ok-subscripts.ensures.subscripts))
    (IsNode_grown c.push.new.nodes c.give_subscripts.new.nodes c.in_ok-whole.whole _ c.in_ok-subscripts.ensures.grows c.in_ok-whole.ensures.node)
