-- The array with its index.
use Rattle.std.proofs.Common.{◌≡◌, ◌∙◌, [], ◌∷◌, ap}
use Rattle.smv_value.specs.declared.operator.Operator.TheVariants as operator
use Rattle.smv_resolve.specs.Resolved.{Resolved, operands_of, part_of}
use Rattle.smv_resolve.proofs.Growing.{Grows-two}
use Rattle.smv_layout.proofs.Entering.{subscripts_more}
use Rattle.smv_layout.proofs.Places.{IsNode_along}
use Rattle.smv_layout.proofs.Standing.{array_laid}
use Rattle.smv_layout.proofs.operators.push_subarray.Goals as goal

pub returns-clause-laid : goal.returns-clause-laid
returns-clause-laid c =
    let old = c.args.nodes.now in
    let mid = c.push_index.new.nodes in
    let array = c.args.array.now in
    let link : Resolved → Resolved → Resolved = λ a i. Resolved.Apply c.args.place operator.Index (operands_of (a ∷ i ∷ [])) in
    array_laid c.push.new.nodes array.variable array.place c.args.subscripts c.in_ok-whole.whole _ _
    (subscripts_more old c.push.new.nodes array.subscripts c.args.subscripts c.args.subscript (Grows-two c.in_ok-index.ensures.grows c.in_ok-whole.ensures.grows) c.requires.stands.1 c.requires.index c.requires.subscripts)
    (IsNode_along c.push.new.nodes c.in_ok-whole.whole _ _
    (ap (λ a. link a (part_of mid c.in_ok-index.index)) (c.in_ok-index.ensures.grows.kept array.whole c.requires.stands.0) ∙ ap (link (part_of old array.whole)) c.in_ok-index.ensures.node.is)
    c.in_ok-whole.ensures.node)
