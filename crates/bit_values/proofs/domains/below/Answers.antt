-- The limit as edges, or past each number of so many bits.
use Rattle.std.proofs.Common.{◌≡◌, ℕ, ◌^◌, ◌<◌, ◌≤◌, length, sym, ap, ◌∙◌, arith, nat_lt}
use Rattle.std.proofs.lemmas.Bool.{lt-ltb}
use Rattle.bit_graph.specs.Meaning.{edge_value}
use Rattle.bit_arith.specs.Number.{number_of, values_of}
use Rattle.bit_arith.proofs.Numbers.{number-lt}
use Rattle.bit_values.specs.Bits.{bits_of}
use Rattle.bit_values.proofs.Numbers.{length-bits_of, number-constant}
use Rattle.bit_values.proofs.Widths.{not_reached}
use Rattle.bit_values.proofs.domains.below.Goals as goal

pub compare-requires-clause-lengths : goal.compare-requires-clause-lengths
compare-requires-clause-lengths c =
    sym (ap length c.deref-else-reaches.ensures.value ∙ c.in_ok-limit_edges.ensures.length ∙ ap length c.deref.ensures.value ∙ ap length c.in_ok-limit_bits.ensures
    ∙ length-bits_of (length c.args.bits.now) c.from.result)

pub returns-then-reaches-clause-value : goal.returns-then-reaches-clause-value
returns-then-reaches-clause-value c = λ v h.
    let past : 2 ^ length c.args.bits.now ≤ c.args.limit = c.reaches.ensures.0 c.if-reaches.true in
    let small : number_of v c.args.bits.now < 2 ^ length c.args.bits.now = number-lt (edge_value v) c.args.bits.now in
    c.constant.ensures.value v h ∙ sym (lt-ltb (number_of v c.args.bits.now) c.args.limit (omega arith))

pub returns-in_ok-less-clause-value : goal.returns-in_ok-less-clause-value
returns-in_ok-less-clause-value c = λ v h.
    let width = length c.args.bits.now in
    let small : c.args.limit < 2 ^ width = not_reached c.reaches.result (2 ^ width) c.args.limit c.reaches.ensures c.if-reaches.false in
    let bits : values_of v c.deref-else-reaches.result.now ≡ bits_of width c.args.limit =
    ap (values_of v) c.deref-else-reaches.ensures.value ∙ c.in_ok-limit_edges.ensures.value v (c.in_ok-less.ensures.extends.kept v h)
    ∙ c.deref.ensures.value ∙ c.in_ok-limit_bits.ensures ∙ ap (bits_of width) c.from.ensures in
    c.in_ok-less.ensures.less v h
    ∙ ap (nat_lt (number_of v c.args.bits.now)) (number-constant v c.deref-else-reaches.result.now width c.args.limit small bits)
