use Rattle.std.proofs.Common.{◌≡◌, ◌∙◌, Bool, true, false, not, ap, refl, sym, arith}
use Rattle.std.specs.Bool.{beq}
use Rattle.bit_graph.specs.Meaning.{edge_value, exclusive_or}
use Rattle.bit_graph.proofs.graph.Graph.xor.Goals as goal

opposite : (n x : Bool) → exclusive_or (not n) x ≡ not (exclusive_or n x)
opposite true true = refl
opposite true false = refl
opposite false x = refl

with_true : (x : Bool) → not x ≡ exclusive_or x true
with_true true = refl
with_true false = refl

with_false : (x : Bool) → x ≡ exclusive_or x false
with_false true = refl
with_false false = refl

turned : (x y : Bool) → exclusive_or y x ≡ exclusive_or x y
turned true true = refl
turned true false = refl
turned false true = refl
turned false false = refl

-- two signs as one
signs : (n m x y : Bool) → exclusive_or (not (beq n m)) (exclusive_or x y) ≡ exclusive_or (exclusive_or n x) (exclusive_or m y)
signs true true true y = refl
signs true true false true = refl
signs true true false false = refl
signs true false true true = refl
signs true false true false = refl
signs true false false y = refl
signs false true true y = refl
signs false true false y = refl
signs false false x y = refl

same_node : (n m x : Bool) → not (beq n m) ≡ exclusive_or (exclusive_or n x) (exclusive_or m x)
same_node true true true = refl
same_node true true false = refl
same_node true false true = refl
same_node true false false = refl
same_node false true true = refl
same_node false true false = refl
same_node false false true = refl
same_node false false false = refl

pub returns-in-Some-true-clause-value : goal.returns-in-Some-true-clause-value
returns-in-Some-true-clause-value c = λ v h.
    ap (edge_value v) c.negation.ensures ∙ opposite c.args.b.negated (v c.args.b.node)
    ∙ sym (ap (λ x. exclusive_or x (edge_value v c.args.b)) (c.in-Some-true.ensures.value v h ∙ c.in-Some-true.field-0-test))

pub returns-in-Some-false-clause-value : goal.returns-in-Some-false-clause-value
returns-in-Some-false-clause-value c = λ v h.
    sym (ap (λ x. exclusive_or x (edge_value v c.args.b)) (c.in-Some-false.ensures.value v h ∙ c.in-Some-false.field-0-test))

pub returns-in-Some-true-as_constant-clause-value : goal.returns-in-Some-true-as_constant-clause-value
returns-in-Some-true-as_constant-clause-value c = λ v h.
    ap (edge_value v) c.negation-in-Some-true-as_constant.ensures ∙ opposite c.args.a.negated (v c.args.a.node) ∙ with_true (edge_value v c.args.a)
    ∙ sym (ap (exclusive_or (edge_value v c.args.a)) (c.in-Some-true-as_constant.ensures.value v h ∙ c.in-Some-true-as_constant.field-0-test))

pub returns-in-Some-false-as_constant-clause-value : goal.returns-in-Some-false-as_constant-clause-value
returns-in-Some-false-as_constant-clause-value c = λ v h.
    with_false (edge_value v c.args.a)
    ∙ sym (ap (exclusive_or (edge_value v c.args.a)) (c.in-Some-false-as_constant.ensures.value v h ∙ c.in-Some-false-as_constant.field-0-test))

pub returns-in_ok-node-clause-value : goal.returns-in_ok-node-clause-value
returns-in_ok-node-clause-value c = λ v h.
    ap (exclusive_or (not (beq c.args.a.negated c.args.b.negated))) (c.in_ok-node.ensures.value v h)
    ∙ signs c.args.a.negated c.args.b.negated (v c.args.a.node) (v c.args.b.node)

pub returns-in_ok-node-2-clause-value : goal.returns-in_ok-node-2-clause-value
returns-in_ok-node-2-clause-value c = λ v h.
    ap (exclusive_or (not (beq c.args.a.negated c.args.b.negated))) (c.in_ok-node-2.ensures.value v h ∙ turned (v c.args.a.node) (v c.args.b.node))
    ∙ signs c.args.a.negated c.args.b.negated (v c.args.a.node) (v c.args.b.node)

pub returns-else-b-a-clause-value : goal.returns-else-b-a-clause-value
returns-else-b-a-clause-value c = λ v h.
    let same : c.args.a.node ≡ c.args.b.node = omega arith in
    c.constant.ensures.value v h ∙ same_node c.args.a.negated c.args.b.negated (v c.args.a.node)
    ∙ ap (λ k. exclusive_or (edge_value v c.args.a) (exclusive_or c.args.b.negated (v k))) same
