use Rattle.std.proofs.Common.{◌<◌, ◌^◌, length}
use Rattle.bit_graph.specs.Meaning.{edge_value}
use Rattle.bit_arith.specs.Number.{number_of}
use Rattle.bit_arith.proofs.Numbers.{number-lt, difference_is}
use Rattle.bit_arith.proofs.sums.subtract.Goals as goal

pub returns-clause-value : goal.returns-clause-value
returns-clause-value c = λ v h.
    let l : number_of v c.in_ok-low.low.items < 2 ^ length c.args.a.now = rw (← c.in_ok-low.ensures.length) (number-lt (edge_value v) c.in_ok-low.low.items) in
    difference_is (2 ^ length c.args.a.now) (number_of v c.in_ok-low.low.items) (number_of v c.args.a.now) (number_of v c.args.b.now)
    (edge_value v c.in_ok-low.field-0-1) (c.in_ok-low.ensures.value v h) l
