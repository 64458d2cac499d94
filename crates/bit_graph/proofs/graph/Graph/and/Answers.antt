use Rattle.std.proofs.Common.{◌≡◌, ◌∙◌, ◌&&◌, Bool, true, false, ap, refl, sym}
use Rattle.bit_graph.specs.Meaning.{edge_value}
use Rattle.bit_graph.proofs.graph.Graph.and.Goals as goal

with_true : (x : Bool) → x ≡ (x && true)
with_true true = refl
with_true false = refl

with_false : (x : Bool) → false ≡ (x && false)
with_false true = refl
with_false false = refl

turned : (x y : Bool) → (y && x) ≡ (x && y)
turned true true = refl
turned true false = refl
turned false true = refl
turned false false = refl

pub returns-in-Some-true-clause-value : goal.returns-in-Some-true-clause-value
returns-in-Some-true-clause-value c = λ v h.
    sym (ap (λ x. x && edge_value v c.args.b) (c.in-Some-true.ensures.value v h ∙ c.in-Some-true.field-0-test))

pub returns-in-Some-false-clause-value : goal.returns-in-Some-false-clause-value
returns-in-Some-false-clause-value c = λ v h.
    let none : edge_value v c.args.a ≡ false = c.in-Some-false.ensures.value v h ∙ c.in-Some-false.field-0-test in
    none ∙ sym (ap (λ x. x && edge_value v c.args.b) none)

pub returns-in-Some-true-as_constant-clause-value : goal.returns-in-Some-true-as_constant-clause-value
returns-in-Some-true-as_constant-clause-value c = λ v h.
    with_true (edge_value v c.args.a)
    ∙ sym (ap (λ y. edge_value v c.args.a && y) (c.in-Some-true-as_constant.ensures.value v h ∙ c.in-Some-true-as_constant.field-0-test))

pub returns-in-Some-false-as_constant-clause-value : goal.returns-in-Some-false-as_constant-clause-value
returns-in-Some-false-as_constant-clause-value c = λ v h.
    let none : edge_value v c.args.b ≡ false = c.in-Some-false-as_constant.ensures.value v h ∙ c.in-Some-false-as_constant.field-0-test in
    none ∙ with_false (edge_value v c.args.a) ∙ sym (ap (λ y. edge_value v c.args.a && y) none)

pub returns-in_ok-find_or_grow-clause-value : goal.returns-in_ok-find_or_grow-clause-value
returns-in_ok-find_or_grow-clause-value c = λ v h. ap (edge_value v) c.to.ensures ∙ c.in_ok-find_or_grow.ensures.value v h

pub returns-in_ok-find_or_grow-2-clause-value : goal.returns-in_ok-find_or_grow-2-clause-value
returns-in_ok-find_or_grow-2-clause-value c = λ v h.
    ap (edge_value v) c.to-then-b-a.ensures ∙ c.in_ok-find_or_grow-2.ensures.value v h ∙ turned (edge_value v c.args.a) (edge_value v c.args.b)
