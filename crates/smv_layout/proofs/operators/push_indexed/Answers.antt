-- An element, where there is an index for each dimension.
use Rattle.std.proofs.Common.{◌≡◌, ◌++◌, [], ◌∷◌, List, length, ap, sym, ◌∙◌, arith}
use Rattle.std.proofs.lemmas.Option.{slice_get_within}
use Rattle.smv_slots.specs.Slots.{first_slot}
use Rattle.smv_layout.specs.declared.laid.SubscriptNode.{SubscriptNode}
use Rattle.smv_layout.specs.Layout.{in_array}
use Rattle.smv_layout.proofs.Entering.{indexed_whole}
use Rattle.smv_layout.proofs.Indexing.{first_found}
use Rattle.smv_layout.proofs.Places.{IsNode_along}
use Rattle.smv_layout.proofs.operators.push_indexed.Goals as goal

pub returns-in_ok-n-in-Some-clause-laid : goal.returns-in_ok-n-in-Some-clause-laid
returns-in_ok-n-in-Some-clause-laid c =
    let v = c.in-Some.variable.now in
    let first = c.first_at-first.result in
    let long : length v.dimensions ≡ length c.push.new.self = omega (arith, c.if-len.true, c.len.ensures, c.len-in-Some.ensures) in
    let made = (rw (c.as_slice-then-len.ensures, c.as_slice-then-len-2.ensures) at c.in_ok-element-in-Some.ensures.node) in
    indexed_whole c.args.variables.now c.args.place c.args.nodes.now c.args.array.now c.args.subscript c.push.new.self
    (c.in_ok-push.ensures.ok ∙ ap (λ (xs : List SubscriptNode). xs ++ c.args.subscript ∷ []) (c.in_ok-subscripts.ensures ∙ c.as_slice.ensures))
    c.push-then-len.new.nodes c.in_ok-n-in-Some.n first v c.in-Some.ensures long
    (c.first_at-first.ensures ∙ first_found c.args.variables.now c.args.firsts.now c.args.array.now.variable c.requires.firsts (slice_get_within c.args.variables.now c.args.array.now.variable v (sym c.in-Some.ensures)))
    (IsNode_along c.push-then-len.new.nodes c.in_ok-n-in-Some.n _ _ (ap (in_array c.args.place c.args.array.now.place first) made.is) c.in_ok-n-in-Some.ensures.node)
