-- In one width.
use Rattle.std.proofs.Common.{arith, length, ap, sym, cond, ◌∙◌}
use Rattle.bit_graph.specs.Meaning.{edge_value}
use Rattle.bit_arith.specs.Number.{number_of}
use Rattle.bit_numbers.proofs.OfIntegers.{chosen_integer}
use Rattle.bit_numbers.proofs.extremes.choose_integer.Goals as goal

pub returns-clause-value : goal.returns-clause-value
returns-clause-value c = λ v h.
    let before = c.in_ok-chosen.ensures.extends.kept v h in
    chosen_integer v (edge_value v c.args.condition) c.args.a.now c.args.b.now c.deref.result.now c.deref-2.result.now c.in_ok-chosen.chosen.items c.max-width.result
    (omega arith) (omega arith) (ap length c.deref.ensures.value ∙ c.in_ok-left.ensures.length) (ap length c.deref-2.ensures.value ∙ c.in_ok-right.ensures.length)
    (c.in_ok-chosen.ensures.length ∙ ap length c.deref.ensures.value ∙ c.in_ok-left.ensures.length)
    (ap (number_of v) c.deref.ensures.value ∙ c.in_ok-left.ensures.value v before) (ap (number_of v) c.deref-2.ensures.value ∙ c.in_ok-right.ensures.value v before)
    (c.in_ok-chosen.ensures.value v h)
