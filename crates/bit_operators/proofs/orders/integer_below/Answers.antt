-- In one width.
use Rattle.std.proofs.Common.{length, ap, sym, ◌∙◌, arith}
use Rattle.std.specs.Prelude.{int_lt}
use Rattle.bit_graph.specs.Meaning.{edge_value}
use Rattle.bit_arith.specs.Number.{number_of}
use Rattle.bit_arith.specs.Words.{integer}
use Rattle.bit_operators.proofs.Discretes.{same_integer}
use Rattle.bit_operators.proofs.orders.integer_below.Goals as goal

pub returns-clause-value : goal.returns-clause-value
returns-clause-value c = λ v h.
    let before = c.in_ok-less.ensures.extends.kept v h in
    let left = (same_integer v c.args.a.now c.deref.result.now c.max-width.result (omega arith) (ap length c.deref.ensures.value ∙ c.in_ok-left.ensures.length) (ap (number_of v) c.deref.ensures.value ∙ c.in_ok-left.ensures.value v before)) in
    let right = (same_integer v c.args.b.now c.deref-2.result.now c.max-width.result (omega arith) (ap length c.deref-2.ensures.value ∙ c.in_ok-right.ensures.length) (ap (number_of v) c.deref-2.ensures.value ∙ c.in_ok-right.ensures.value v before)) in
    c.in_ok-less.ensures.value v h ∙ (λ i. int_lt (left i) ((ap (λ n. integer n (number_of v c.deref-2.result.now)) (ap length c.deref.ensures.value ∙ c.in_ok-left.ensures.length ∙ sym (ap length c.deref-2.ensures.value ∙ c.in_ok-right.ensures.length)) ∙ right) i))
