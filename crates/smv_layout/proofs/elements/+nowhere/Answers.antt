-- A dimension further.
use Rattle.std.proofs.Common.{ap, arith}
use Rattle.smv_layout.specs.Arrays.{nowhere}
use Rattle.smv_layout.specs.Nodes.{subscript_by}
use Rattle.smv_layout.proofs.Places.{IsNode_along, nowhere_both}
use Rattle.smv_layout.proofs.Standing.{AreNodes_two, IsNode_grown, subscripts_first, subscripts_kept, subscripts_rest}
use Rattle.smv_layout.proofs.elements.+nowhere.Goals as goal

pub push_nowhere-push_beyond-requires : goal.push_nowhere-push_beyond-requires
push_nowhere-push_beyond-requires t c =
    let e = c.in-Some.ensures.cases in
    let f = c.in-Some-split_first.ensures.cases in
    let first = subscripts_first c.args.nodes.now c.args.subscripts.now c.in-Some-split_first.subscript.now c.in-Some-split_first.further.now f.0 c.requires in
    let rest = subscripts_rest c.args.nodes.now c.args.subscripts.now c.in-Some-split_first.subscript.now c.in-Some-split_first.further.now f.0 c.requires in
    (omega (arith, e.1), (first, rest))

pub push_outside-returns-clause-node : goal.push_outside-returns-clause-node
push_outside-returns-clause-node t c =
    c.in_ok-n.ensures.node _
    (AreNodes_two c.push_nowhere.new.nodes c.in_ok-condition.condition c.in_ok-branch.branch _ _
    (IsNode_grown c.push_is_index.new.nodes c.push_nowhere.new.nodes c.in_ok-condition.condition _ c.in_ok-branch.ensures.grows
    (c.in_ok-condition.ensures.node c.args.dimension.low c.first_index.ensures))
    (IsNode_along c.push_nowhere.new.nodes c.in_ok-branch.branch _ _
    (ap (nowhere c.args.t.now c.args.subscript.place c.args.below.now) (subscripts_kept c.args.nodes.now c.push_is_index.new.nodes c.in_ok-condition.ensures.grows c.args.further.now c.requires.further))
    c.in_ok-branch.ensures.node))

pub push_nowhere-returns-in_ok-n-in-Some-split_first-clause-node : goal.push_nowhere-returns-in_ok-n-in-Some-split_first-clause-node
push_nowhere-returns-in_ok-n-in-Some-split_first-clause-node t c =
    IsNode_along c.push_beyond.new.nodes c.in_ok-n-in-Some-split_first.n _ _
    (nowhere_both c.args.t.now c.args.place c.args.dimensions.now c.args.nodes.now c.args.subscripts.now c.in-Some.dimension.now c.in-Some.below.now c.in-Some-split_first.subscript.now
    c.in-Some-split_first.further.now c.in-Some.ensures.cases.0 c.in-Some-split_first.ensures.cases.0)
    (c.in_ok-n-in-Some-split_first.ensures.node c.args.place)
