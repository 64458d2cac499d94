-- The codes are the numbers below the count.
use Rattle.std.proofs.Common.{sym, ap, ◌∙◌}
use Rattle.std.proofs.lemmas.List.{length-map}
use Rattle.bit_graph.specs.Meaning.{edge_value}
use Rattle.bit_arith.specs.Number.{values_of}
use Rattle.bit_values.proofs.Widths.{all_codes, code_edges}
use Rattle.bit_values.proofs.domains.domain.Goals as goal

pub returns-in_ok-e-in-Some-clause-value : goal.returns-in_ok-e-in-Some-clause-value
returns-in_ok-e-in-Some-clause-value c = λ v h.
    c.in_ok-e-in-Some.ensures.value v h
    ∙ sym (code_edges c.args.declared.now v c.args.bits.now c.in-Some.count (sym c.discrete_count.ensures ∙ c.in-Some.is))

pub returns-in-None-clause-value : goal.returns-in-None-clause-value
returns-in-None-clause-value c = λ v h.
    c.constant.ensures.value v h
    ∙ sym (all_codes c.args.declared.now (values_of v c.args.bits.now) (sym c.discrete_count.ensures ∙ c.in-None.is)
    (length-map c.args.bits.now (edge_value v) ∙ c.requires.width))
