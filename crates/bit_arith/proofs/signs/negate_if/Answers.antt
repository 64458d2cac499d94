use Rattle.std.proofs.Common.{◌∙◌, ap, cond}
use Rattle.bit_graph.specs.Meaning.{edge_value}
use Rattle.bit_arith.specs.Number.{number_of}
use Rattle.bit_arith.proofs.Horner.{number_of-chosen}
use Rattle.bit_arith.proofs.signs.negate_if.Goals as goal

pub returns-clause-value : goal.returns-clause-value
returns-clause-value c = λ v h.
    number_of-chosen v (edge_value v c.args.condition) c.in_ok-chosen.chosen.items c.deref.result.now c.args.a.now (c.in_ok-chosen.ensures.value v h)
    ∙ ap (λ k. cond (edge_value v c.args.condition) k (number_of v c.args.a.now))
    (ap (number_of v) c.deref.ensures.value ∙ c.in_ok-less.ensures.value v (c.in_ok-chosen.ensures.extends.kept v h))
