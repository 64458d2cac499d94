-- The gate's operands are there, or it is an input.
use Rattle.std.proofs.Common.{◌≡◌, ◌∙◌, ℕ, ◌<◌, Bool, false, ◌&&◌, cond, sym, ap, subst}
use Rattle.std.specs.Prelude.{slice_index_or}
use Rattle.bit_graph.specs.declared.edge.GraphNode.TheVariants.{Input}
use Rattle.bit_graph.specs.Meaning.{Stands, edge_value, exclusive_or}
use Rattle.bit_graph.specs.Values.{value_under, values}
use Rattle.bit_faults.specs.Cones.{AgreeOn}
use Rattle.bit_faults.proofs.Copying.{at_and, at_choice, at_false, at_input, at_xor, last_agrees, takes_as, takes_stand}
use Rattle.bit_faults.proofs.cones.copy_of.Goals as goal

pub both-requires-clause-one : goal.both-requires-clause-one
both-requires-clause-one c = takes_stand _ _ _ _ (c.taken-one.ensures c.args.inputs c.args.graph.now c.requires.copies)

pub both-requires-clause-other : goal.both-requires-clause-other
both-requires-clause-other c = takes_stand _ _ _ _ (c.taken-other.ensures c.args.inputs c.args.graph.now c.requires.copies)

pub just_one-requires-clause-one : goal.just_one-requires-clause-one
just_one-requires-clause-one c = takes_stand _ _ _ _ (c.taken-one-in-Xor.ensures c.args.inputs c.args.graph.now c.requires.copies)

pub just_one-requires-clause-other : goal.just_one-requires-clause-other
just_one-requires-clause-other c = takes_stand _ _ _ _ (c.taken-other-in-Xor.ensures c.args.inputs c.args.graph.now c.requires.copies)

pub chosen-requires-clause-condition : goal.chosen-requires-clause-condition
chosen-requires-clause-condition c = takes_stand _ _ _ _ (c.taken-condition.ensures c.args.inputs c.args.graph.now c.requires.copies)

pub chosen-requires-clause-one : goal.chosen-requires-clause-one
chosen-requires-clause-one c = takes_stand _ _ _ _ (c.taken-one-in-Choice.ensures c.args.inputs c.args.graph.now c.requires.copies)

pub chosen-requires-clause-other : goal.chosen-requires-clause-other
chosen-requires-clause-other c = takes_stand _ _ _ _ (c.taken-other-in-Choice.ensures c.args.inputs c.args.graph.now c.requires.copies)

pub returns-in-False-clause-taken : goal.returns-in-False-clause-taken
returns-in-False-clause-taken c =
    let g = c.args.graph.now in
    let k = c.args.node in
    let zero_at : (a : ℕ → Bool) → values a g k ≡ false = λ a. at_false g c.one_way.ensures.law k c.requires.node a (sym c.node.ensures.value ∙ c.in-False.is) in
    record {
      stands = c.constant.ensures.stands;
      value = λ v ok. c.constant.ensures.value v ok ∙ sym (zero_at v);
      reads = λ a b agree. zero_at a ∙ sym (zero_at b);
    }

pub returns-in_ok-push-in-Input-clause-taken : goal.returns-in_ok-push-in-Input-clause-taken
returns-in_ok-push-in-Input-clause-taken c =
    let g = c.args.graph.now in
    let k = c.args.node in
    let is : slice_index_or g k Input ≡ Input = sym c.node.ensures.value ∙ c.in-Input.is in
    let below : k < c.args.inputs = c.requires.inputs.only k c.requires.node is in
    let same : (a : ℕ → Bool) → values a g k ≡ a k = λ a. at_input g c.one_way.ensures.law k c.requires.node a is in
    record {
      stands = subst (λ e. Stands c.args.cone.now.graph e) (sym c.to.ensures) (c.requires.copies.inputs.at k below).0;
      value = λ v ok. ap (edge_value v) c.to.ensures ∙ sym (same v);
      reads = λ a b agree. same a ∙ last_agrees c.args.cone.now.read.items k a b (subst (λ read. AgreeOn read a b) c.in_ok-push-in-Input.ensures.items agree) ∙ sym (same b);
    }

pub returns-in_ok-copy-in-And-clause-taken : goal.returns-in_ok-copy-in-And-clause-taken
returns-in_ok-copy-in-And-clause-taken c =
    let g = c.args.graph.now in
    let k = c.args.node in
    let x = c.in-And.a in
    let y = c.in-And.b in
    let read = c.args.cone.now.read.items in
    takes_as c.both.new.graph read (λ a. value_under a g x && value_under a g y) (λ a. values a g k) c.in_ok-copy-in-And.copy
    (λ a. sym (at_and g c.one_way.ensures.law k c.requires.node a x y (sym c.node.ensures.value ∙ c.in-And.is)))
    (c.in_ok-copy-in-And.ensures.taken read (λ a. value_under a g x) (λ a. value_under a g y) (c.taken-one.ensures c.args.inputs g c.requires.copies)
    (c.taken-other.ensures c.args.inputs g c.requires.copies))

pub returns-in_ok-copy-in-Xor-clause-taken : goal.returns-in_ok-copy-in-Xor-clause-taken
returns-in_ok-copy-in-Xor-clause-taken c =
    let g = c.args.graph.now in
    let k = c.args.node in
    let x = c.to-in-Xor.result in
    let y = c.to-in-Xor-2.result in
    let read = c.args.cone.now.read.items in
    takes_as c.just_one.new.graph read (λ a. exclusive_or (value_under a g x) (value_under a g y)) (λ a. values a g k) c.in_ok-copy-in-Xor.copy
    (λ a. (λ i. exclusive_or (value_under a g (c.to-in-Xor.ensures i)) (value_under a g (c.to-in-Xor-2.ensures i)))
    ∙ sym (at_xor g c.one_way.ensures.law k c.requires.node a c.in-Xor.a c.in-Xor.b (sym c.node.ensures.value ∙ c.in-Xor.is)))
    (c.in_ok-copy-in-Xor.ensures.taken read (λ a. value_under a g x) (λ a. value_under a g y) (c.taken-one-in-Xor.ensures c.args.inputs g c.requires.copies)
    (c.taken-other-in-Xor.ensures c.args.inputs g c.requires.copies))

pub returns-in_ok-copy-in-Choice-clause-taken : goal.returns-in_ok-copy-in-Choice-clause-taken
returns-in_ok-copy-in-Choice-clause-taken c =
    let g = c.args.graph.now in
    let k = c.args.node in
    let w = c.to-in-Choice.result in
    let x = c.to-in-Choice-2.result in
    let y = c.in-Choice.b in
    let read = c.args.cone.now.read.items in
    takes_as c.chosen.new.graph read (λ a. cond (value_under a g w) (value_under a g x) (value_under a g y)) (λ a. values a g k) c.in_ok-copy-in-Choice.copy
    (λ a. (λ i. cond (value_under a g (c.to-in-Choice.ensures i)) (value_under a g (c.to-in-Choice-2.ensures i)) (value_under a g y))
    ∙ sym (at_choice g c.one_way.ensures.law k c.requires.node a c.in-Choice.c c.in-Choice.a y (sym c.node.ensures.value ∙ c.in-Choice.is)))
    (c.in_ok-copy-in-Choice.ensures.taken read (λ a. value_under a g w) (λ a. value_under a g x) (λ a. value_under a g y)
    (c.taken-condition.ensures c.args.inputs g c.requires.copies) (c.taken-one-in-Choice.ensures c.args.inputs g c.requires.copies)
    (c.taken-other-in-Choice.ensures c.args.inputs g c.requires.copies))
