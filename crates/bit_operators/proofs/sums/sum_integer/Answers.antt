-- In bits enough for the sum.
use Rattle.std.proofs.Common.{◌≡◌, ℕ, ◌^◌, ◌<◌, Bool, true, length, sym, ap, subst, ◌∙◌}
use Rattle.bit_graph.specs.Meaning.{edge_value}
use Rattle.bit_arith.specs.Number.{number_of}
use Rattle.bit_operators.proofs.OfSums.{sum_integer_is}
use Rattle.bit_operators.proofs.sums.sum_integer.Goals as goal

pub returns-clause-value : goal.returns-clause-value
returns-clause-value c = λ v h ix iy iz.
    let before = c.in_ok-sum.ensures.extends.kept v h in
    sum_integer_is v c.args.o c.args.a.now c.args.b.now c.deref.result.now c.deref-2.result.now c.in_ok-sum.sum.items c.sum_width-width.result c.sum_width-width.ensures
    (ap length c.deref.ensures.value ∙ c.in_ok-left.ensures.length) (ap length c.deref-2.ensures.value ∙ c.in_ok-right.ensures.length)
    (c.in_ok-sum.ensures.length ∙ ap length c.deref.ensures.value ∙ c.in_ok-left.ensures.length)
    (ap (number_of v) c.deref.ensures.value ∙ c.in_ok-left.ensures.value v before) (ap (number_of v) c.deref-2.ensures.value ∙ c.in_ok-right.ensures.value v before)
    (λ w. c.in_ok-sum.ensures.value v true h w) ix iy iz
