use Rattle.std.proofs.Common.{arith, ◌≡◌, ◌+◌, ◌^◌, ◌<◌, ap, length}
use Rattle.bit_graph.specs.Meaning.{edge_value}
use Rattle.bit_arith.specs.Number.{bit, number_of}
use Rattle.bit_arith.proofs.Numbers.{number-lt, low_part}
use Rattle.bit_arith.proofs.sums.add.Goals as goal

pub returns-clause-value : goal.returns-clause-value
returns-clause-value c = λ v h.
    let e = c.in_ok-sum.ensures.value v h in
    let z : bit (edge_value v c.constant-zero.result) ≡ 0 = ap bit (c.constant-zero.ensures.value v (c.in_ok-sum.ensures.extends.kept v h)) in
    let l : number_of v c.in_ok-sum.sum.items < 2 ^ length c.args.a.now = rw (← c.in_ok-sum.ensures.length) (number-lt (edge_value v) c.in_ok-sum.sum.items) in
    low_part (number_of v c.in_ok-sum.sum.items) (2 ^ length c.args.a.now) (bit (edge_value v c.in_ok-sum.field-0-1)) (number_of v c.args.a.now + number_of v c.args.b.now) l (omega (arith, e, z))
